-- `fill` lays the content. Assumes nothing.
use borrow.Author.Rules.{rules}
use Rattle.objtext.proofs.Places.{fill_start, fill_on, fill_end}
use Rattle.objtext.proofs.fill.Goals as goal

pub loop-j-init : goal.loop-j-init
loop-j-init c =
    (search rules, fill_start c.args.t.now c.args.i c.args.n _ c.args.at)

pub loop-j-preserved : goal.loop-j-preserved
loop-j-preserved c = (
  search rules,
  fill_on c.args.t.now
      c.args.i c.args.n c.loop-j.s
      c.args.at c.loop-j.j _ c.loop-j-test.true c.byte_at-byte.ensures.0
      c.loop-j.invariant.1,
)

pub returns : goal.returns
returns c =
    fill_end c.args.t.now c.args.i
    c.args.n c.loop-j.s c.args.at c.loop-j.j c.loop-j-test.false
    c.loop-j.invariant.1
