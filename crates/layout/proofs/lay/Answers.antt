-- `lay` stores the low bytes, the last first. Assumes nothing.
use borrow.Author.Rules.{rules}
use Rattle.base.proofs.Numbers.{store-turn, store-end}
use Rattle.layout.proofs.lay.Goals as goal

pub loop-i-preserved : goal.loop-i-preserved
loop-i-preserved c = (
  search rules,
  search rules,
  rw c.put_byte.ensures
      (store-turn c.loop-i.s c.args.at
      c.loop-i.i c.loop-i.rest
      c.loop-i-test.true c.loop-i.invariant.2),
)

pub returns : goal.returns
returns c =
    store-end c.loop-i.s c.args.at c.loop-i.i c.loop-i.rest c.loop-i-test.false c.loop-i.invariant.2
