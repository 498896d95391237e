-- `open_around` enters the standard names. The invariant: those above t are entered. Assumes nothing.
use Rattle.names.proofs.Changes.{Entering}
use Rattle.ledger.specs.Book.{thin_of}
use lib.ListN.{length}
use mathlib.Core.Path.{◌≡◌}
use Rattle.names.proofs.open_around.Given as goal

abbrev pub invariant-loop-t : goal.invariant-loop-t
invariant-loop-t l =
    Entering (thin_of l.initial.thin) (thin_of l.thin) l.b l.t × (length l.thin ≡ length l.initial.thin)
