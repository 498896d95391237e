-- `lay_tokens` lays a text's tokens behind the names, to the last or to a refusal. Assumes nothing.
use Rattle.settled.proofs.Reading.{underway-start, answered, underway-on, underway-last, underway-inside, underway-no}
use Rattle.token.proofs.Readings.{refused-some, few-tokens, ends-inside, some_bytes, has_room}
use Rattle.token.specs.Answers.{outcome_of}
use mathlib.Core.Path.{refl, sym, ap, ◌∙◌}
use native.Mathlib.Omega.{arith}
use borrow.Author.Rules.{rules}
use Rattle.settled.proofs.lay_tokens.Goals as goal

pub loop-t-init : goal.loop-t-init
loop-t-init c =
    (underway-start _ _ _, refl, refl)

pub slice_bounds-next_token-count : goal.slice_bounds-next_token-count
slice_bounds-next_token-count c =
    omega (arith, c.loop-t.invariant.0.reads.inside)

pub slice_bounds-next_token-start : goal.slice_bounds-next_token-start
slice_bounds-next_token-start c =
    omega (arith, c.loop-t.invariant.0.reads.inside)

pub slice_bounds-next_token-end : goal.slice_bounds-next_token-end
slice_bounds-next_token-end c =
    omega (arith, c.loop-t.invariant.0.reads.inside)

pub overflow_add-kinds : goal.overflow_add-kinds
overflow_add-kinds c =
    omega (arith, c.loop-t.invariant.0.reads.few, c.loop-t.invariant.0.reads.inside, c.requires.0)

pub bounds-kinds-n : goal.bounds-kinds-n
bounds-kinds-n c =
    omega (
      arith,
      has_room (answered c.loop-t.invariant.0 c.next_token-next.ensures) c.in-Ok.is _ (few-tokens c.args.src.now 0 0 c.args.src.now),
      c.loop-t.invariant.1,
      c.requires.1,
    )

pub overflow_add-n : goal.overflow_add-n
overflow_add-n c =
    omega (arith, c.loop-t.invariant.0.reads.few, c.loop-t.invariant.0.reads.inside, c.requires.0)

pub overflow_add-n-in-Ok : goal.overflow_add-n-in-Ok
overflow_add-n-in-Ok c =
    omega (arith, c.loop-t.invariant.0.reads.few, c.loop-t.invariant.0.reads.inside, c.requires.0)

pub shape_of-wide-then-is_last : goal.shape_of-wide-then-is_last
shape_of-wide-then-is_last c =
    c.put_value.auto.wide ∙ c.loop-t.invariant.2

pub returns-then-is_last : goal.returns-then-is_last
returns-then-is_last c =
    underway-last c.loop-t.invariant.0 c.next_token-next.ensures c.in-Ok.is _ c.put_value.ensures c.requires.0
    (sym c.is_last.ensures ∙ c.if-is_last.true)

pub overflow_add-at : goal.overflow_add-at
overflow_add-at c =
    omega (arith, ends-inside (answered c.loop-t.invariant.0 c.next_token-next.ensures) c.in-Ok.is)

pub loop-t-smaller : goal.loop-t-smaller
loop-t-smaller c =
    omega (
      arith,
      ends-inside (answered c.loop-t.invariant.0 c.next_token-next.ensures) c.in-Ok.is,
      some_bytes (answered c.loop-t.invariant.0 c.next_token-next.ensures) c.in-Ok.is (sym c.is_last.ensures ∙ c.if-is_last.false),
    )

pub loop-t-preserved : goal.loop-t-preserved
loop-t-preserved c = (
  underway-on c.loop-t.invariant.0 c.next_token-next.ensures c.in-Ok.is _ c.put_value.ensures (sym c.is_last.ensures ∙ c.if-is_last.false),
  search rules,
  c.put_value.auto.wide ∙ c.loop-t.invariant.2,
)

pub overflow_add-at-in-Err : goal.overflow_add-at-in-Err
overflow_add-at-in-Err c =
    omega (
      arith,
      underway-inside c.next_token-next.result c.loop-t.invariant.0 c.next_token-next.ensures (ap outcome_of c.in-Err.is),
    )

pub shape_of-kinds-in-Err : goal.shape_of-kinds-in-Err
shape_of-kinds-in-Err c =
    c.loop-t.invariant.1

pub shape_of-wide-in-Err : goal.shape_of-wide-in-Err
shape_of-wide-in-Err c =
    c.loop-t.invariant.2

pub returns-in-Err : goal.returns-in-Err
returns-in-Err c =
    underway-no c.next_token-next.result c.loop-t.invariant.0 c.next_token-next.ensures (ap outcome_of c.in-Err.is) (refused-some _)
    c.requires.0 _ (rw c.spot_at-spot.ensures)
