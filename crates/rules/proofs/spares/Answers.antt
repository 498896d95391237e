-- The loop goes down the stack: none above is in the set.
use Rattle.rules.proofs.Sorts as sorts
use mathlib.Core.Path.{refl, sym}
use Rattle.rules.proofs.spares.Goals as goal

pub loop-i-init : goal.loop-i-init
loop-i-init c =
    refl

pub returns-then-has : goal.returns-then-has
returns-then-has c =
    sym (sorts.spares-hit _ _ c.loop-i.i _ _ c.loop-i-test.true
    c.offset.ensures c.has.ensures c.if-has.true c.loop-i.invariant)

pub loop-i-preserved : goal.loop-i-preserved
loop-i-preserved c =
    sorts.spares-miss _ _ c.loop-i.i _ _ c.loop-i-test.true
    c.offset.ensures c.has.ensures c.if-has.false c.loop-i.invariant

pub returns : goal.returns
returns c =
    sym (sorts.spares-none _ _ c.loop-i.i c.loop-i-test.false c.loop-i.invariant)
