-- Four bytes, each of eight bits. Assumes nothing.
use Rattle.code.proofs.Coding.{four-laid}
use Rattle.code.proofs.lay_four.Goals as goal

pub returns : goal.returns
returns c =
    four-laid
    c.args.image.now _ _ _ _
    c.args.at
    c.args.op
    c.args.r
    c.args.x
    c.args.b
    c.args.d
    c.put_byte.ensures
    c.put_byte-2.ensures
    c.put_byte-3.ensures c.put_byte-4.ensures
