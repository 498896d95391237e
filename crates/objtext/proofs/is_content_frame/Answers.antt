-- `is_content_frame` makes the definition's tests at places of the text. Assumes nothing.
use Rattle.base.proofs.Tests.{told}
use Rattle.objtext.proofs.Places.{frame-place, no-frame}
use Rattle.objtext.proofs.is_content_frame.Goals as goal

pub returns-then-is_line : goal.returns-then-is_line
returns-then-is_line c =
    rw (
      c.byte_at.ensures.0,
      c.byte_at-then-is_line.ensures.0,
      c.two_at.ensures.0,
      c.byte_at-then-is_line-2.ensures.0,
    ) (frame-place c.args.t.now
    c.args.i c.args.k
    c.args.o c.args.n
    (told c.is_line.ensures c.if-is_line.true))

pub returns : goal.returns
returns c =
    no-frame c.args.t.now c.args.i c.args.k
    c.args.o c.args.n (told c.is_line.ensures c.if-is_line.false)
