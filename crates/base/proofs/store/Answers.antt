-- `store` lays the low bytes of a number, the last first. Assumes nothing.
use Rattle.base.proofs.Numbers.{store-turn, store-end}
use Rattle.base.proofs.store.Goals as goal

pub loop-i-preserved : goal.loop-i-preserved
loop-i-preserved c =
    store-turn c.loop-i.s c.args.at c.loop-i.i c.loop-i.rest c.loop-i-test.true c.loop-i.invariant

pub returns : goal.returns
returns c =
    store-end c.loop-i.s c.args.at c.loop-i.i c.loop-i.rest c.loop-i-test.false c.loop-i.invariant
