-- The loop goes down the stack: none above is the register.
use Rattle.rules.proofs.Sorts as sorts
use mathlib.Core.Path.{refl, sym}
use Rattle.rules.proofs.is_kept.Goals as goal

pub loop-i-init : goal.loop-i-init
loop-i-init c =
    refl

pub returns-then-r-offset : goal.returns-then-r-offset
returns-then-r-offset c =
    sym (sorts.kept-hit _ _ c.loop-i.i _ c.loop-i-test.true c.offset.ensures c.if-r-offset.true
    c.loop-i.invariant)

pub loop-i-preserved : goal.loop-i-preserved
loop-i-preserved c =
    sorts.kept-miss _ _ c.loop-i.i _ c.loop-i-test.true c.offset.ensures c.if-r-offset.false
    c.loop-i.invariant

pub returns : goal.returns
returns c =
    sym (sorts.kept-none _ _ c.loop-i.i c.loop-i-test.false c.loop-i.invariant)
