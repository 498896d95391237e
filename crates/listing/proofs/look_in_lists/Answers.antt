-- `look_in_lists` lends lists for 32,768 bytes. Assumes nothing.
use native.Mathlib.Omega.{arith}
use Rattle.settled.specs.Texts.{rows_for}
use Rattle.token.specs.Text.{TEXT-LIMIT}
use Rattle.settled.proofs.Rooms.{rooms}
use Rattle.listing.proofs.look_in_lists.Goals as goal

pub look_in-requires : goal.look_in-requires
look_in-requires c =
    rooms _ (rows_for TEXT-LIMIT) (omega (arith, c.requires)) (omega (arith, c.requires))
