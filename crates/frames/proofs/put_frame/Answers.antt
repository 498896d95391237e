-- `put_frame` lays a head of five bytes and the content behind it. Assumes nothing.
use Rattle.frames.proofs.Lines.{frame-laid}
use Rattle.frames.proofs.put_frame.Goals as goal

pub returns : goal.returns
returns c =
    frame-laid c.args.out.now _ _
    c.args.at
    c.args.k
    c.args.o
    c.args.content.now
    c.put_hex.ensures c.put_line.ensures
