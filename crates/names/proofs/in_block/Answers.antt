-- `in_block` finds the newest entry with a key. Assumes nothing.
use Rattle.names.proofs.Search.{hit, miss, out}
use mathlib.Core.Path.{refl, sym}
use Rattle.names.proofs.in_block.Goals as goal

pub loop-j-init : goal.loop-j-init
loop-j-init c =
    λ further. refl

pub returns-then-value-wanted : goal.returns-then-value-wanted
returns-then-value-wanted c = record {
  is = λ further. sym (hit _ _ _ _ further c.loop-j.j _ _ c.loop-j-test.true c.opens-d.ensures.0 c.value.ensures c.if-value-wanted.true (c.loop-j.invariant further));
  small = c.opens-d.ensures.1;
}

pub loop-j-preserved : goal.loop-j-preserved
loop-j-preserved c =
    λ further. miss _ _ _ _ further c.loop-j.j _ _ c.loop-j-test.true c.opens-d.ensures.0 c.value.ensures c.if-value-wanted.false (c.loop-j.invariant further)

pub returns : goal.returns
returns c =
    record { is = λ further. sym (out _ _ _ _ further c.loop-j.j c.loop-j-test.false (c.loop-j.invariant further)); small = tt }
