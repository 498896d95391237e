-- `is_content` is the definition's content. Assumes nothing.
use Rattle.base.proofs.Tests.{told}
use Rattle.objtext.proofs.Places.{frame_on}
use Rattle.objtext.proofs.is_content.Goals as goal

pub loop-m-preserved : goal.loop-m-preserved
loop-m-preserved c =
    frame_on c.args.t.now c.args.i c.args.k c.args.n c.loop-m.m c.loop-m-test.true
    (rw c.least.ensures at (told c.is_content_frame.ensures c.if-not-is_content_frame.false)) c.loop-m.invariant
