-- The low 32 bits are added; the width is told by its number. Assumes nothing.
use Rattle.tables.specs.Packed.{low}
use Rattle.tables.proofs.Meanings.{width_coded}
use Rattle.emit.specs.Events.{element_in}
use Rattle.emit.proofs.element.Goals as goal

pub returns : goal.returns
unfolding element_in low
returns c =
    rw (c.offset.ensures, ← c.width_of.ensures, width_coded, c.under.ensures)
