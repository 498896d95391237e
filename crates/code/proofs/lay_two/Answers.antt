-- Two bytes, each of eight bits. Assumes nothing.
use Rattle.code.proofs.Coding.{two-laid}
use Rattle.code.proofs.lay_two.Goals as goal

pub returns : goal.returns
returns c =
    two-laid c.args.image.now _ _
    c.args.at
    c.args.op
    c.args.r
    c.args.s c.put_byte.ensures
    c.put_byte-2.ensures
