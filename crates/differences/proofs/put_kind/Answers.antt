-- The phrase of the line, and its offset. Assumes nothing.
use mathlib.Core.Path.{ap}
use Rattle.figures.specs.Parts.{filled}
use Rattle.figures.proofs.Writing.{called, then}
use Rattle.differences.proofs.put_kind.Goals as goal

pub returns : goal.returns
returns c =
    called (rw (c.unwrap_or-segment.ensures, c.digit_of.ensures.0, c.byte.ensures, c.byte-2.ensures))
    (then (called (ap (filled _) c.kind.ensures) c.put_filled.ensures) c.put_offset.ensures)
