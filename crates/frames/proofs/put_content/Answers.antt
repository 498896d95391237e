-- `put_content` lays a frame after the other. Assumes nothing.
use Rattle.std.proofs.Common.{rules, arith}
use Rattle.frames.proofs.Lines.{content-on}
use Rattle.frames.proofs.put_content.Goals as goal

pub loop-m-preserved : goal.loop-m-preserved
loop-m-preserved c = (
  search rules,
  omega (arith, c.least-to.ensures),
  content-on c.args.k c.args.content.now c.loop-m.m c.loop-m-test.true c.least-to.result c.least-to.ensures
      c.loop-m.out c.put_frame.new.out c.loop-m.end c.put_frame.ensures c.loop-m.invariant.2,
)
