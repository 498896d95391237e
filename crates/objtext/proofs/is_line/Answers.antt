-- `is_line` is the definition's line. Assumes nothing.
use Rattle.objtext.proofs.Places.{is-byte, line_on}
use Rattle.objtext.proofs.is_line.Goals as goal

pub loop-j-preserved : goal.loop-j-preserved
loop-j-preserved c =
    line_on c.args.t.now c.args.i c.args.n c.loop-j.j c.loop-j-test.true (is-byte c.byte.result _ c.if-is_none.ensures c.byte.ensures) c.loop-j.invariant
