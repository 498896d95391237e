-- `put_front` copies the names in front. Assumes nothing.
use Rattle.settled.proofs.Laying.{lay-turn, lay-end, values-turn, values-end, front-key}
use Rattle.translation.specs.Translate.{kinds_of, values_of}
use Rattle.scopes.specs.Search.{in_front}
use mathlib.Core.Path.{refl, ◌∙◌}
use borrow.Author.Rules.{rules}
use Rattle.settled.proofs.put_front.Goals as goal

pub loop-t-init : goal.loop-t-init
loop-t-init c =
    record { same-kinds = refl; same-wide = refl; kinds = refl; values = refl }

pub loop-t-preserved : goal.loop-t-preserved
loop-t-preserved c = record {
  same-kinds = search rules;
  same-wide = c.put_value.auto.wide ∙ c.loop-t.invariant.same-wide;
  kinds = lay-turn (kinds_of in_front) _ _ _ c.loop-t-test.true refl c.loop-t.invariant.kinds;
  values = values-turn (values_of in_front) _ _ _ _ c.loop-t-test.true (front-key c.loop-t.t) c.put_value.ensures c.loop-t.invariant.values;
}

pub shape_of-wide : goal.shape_of-wide
shape_of-wide c =
    c.loop-t.invariant.same-wide

pub returns : goal.returns
returns c =
    (lay-end (kinds_of in_front) _ _ c.loop-t-test.false c.loop-t.invariant.kinds, values-end (values_of in_front) _ _ c.loop-t-test.false c.loop-t.invariant.values)
