-- `layout` is the pass. Assumes nothing.
use Rattle.layout.proofs.Along.{going, going_on, going_end, begun}
use Rattle.ledger.specs.Book.{wide_of}
use mathlib.Core.Path.{refl, ◌∙◌}
use Rattle.layout.proofs.layout.Goals as goal

pub loop-e-init : goal.loop-e-init
loop-e-init c =
    (going _ _, refl, refl)

pub loop-e-preserved : goal.loop-e-preserved
loop-e-preserved c = (
  going_on _ _ c.loop-e.invariant.0
      c.loop-e-test.true
      c.op.ensures.0
      c.token.ensures.0 c.layout_event.ensures,
  c.layout_event.auto.wide
      ∙ c.loop-e.invariant.1,
  c.layout_event.auto.thin
      ∙ c.loop-e.invariant.2,
)

pub shape_of-wide : goal.shape_of-wide
shape_of-wide c =
    c.loop-e.invariant.1

pub shape_of-thin : goal.shape_of-thin
shape_of-thin c =
    c.loop-e.invariant.2 ∙ (c.put_written.auto.thin ∙ c.clear_written.auto.thin)

pub returns : goal.returns
returns c =
    going_end _ _ c.loop-e.invariant.0 c.loop-e-test.false
    ∙ begun c.args.tape.now
    c.args.thin.now
    (wide_of c.args.wide.now)
    c.clear_written.ensures c.put_written.ensures
