-- `listed` lends lists of zeros. Assumes nothing.
use native.Mathlib.Omega.{arith}
use Rattle.settled.proofs.Rooms.{rooms}
use Rattle.translate.proofs.listed.Goals as goal

pub whole_as_slice-translate_in-2 : goal.whole_as_slice-translate_in-2
whole_as_slice-translate_in-2 g c =
    omega (arith, c.requires)

pub whole_as_slice-translate_in-3 : goal.whole_as_slice-translate_in-3
whole_as_slice-translate_in-3 g c =
    omega (arith, c.requires)

pub whole_as_slice-translate_in-4 : goal.whole_as_slice-translate_in-4
whole_as_slice-translate_in-4 g c =
    omega (arith, c.requires)

pub translate_in-requires : goal.translate_in-requires
translate_in-requires g c =
    rw c.requires.3 (rooms _ g.row.ROWS c.requires.0 c.requires.1)
