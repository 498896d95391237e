-- The opcode, and the fields of the instruction at the counter. Assumes nothing.
use Rattle.cells.proofs.address.Goals as goal

pub returns : goal.returns
returns c =
    rw (
      c.reached.ensures,
      c.index_of.ensures.0,
      c.wide-fields.ensures.0,
      c.wide-high.ensures.0,
      c.wide-low.ensures.0,
      c.byte-op.ensures,
      c.byte.ensures,
      c.byte-2.ensures,
      c.byte-3.ensures,
    )
