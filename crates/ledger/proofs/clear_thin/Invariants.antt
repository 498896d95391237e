-- `clear_thin` puts 0 in row after row. The invariant: the rows passed are zeros in the column. Assumes nothing.
use Rattle.ledger.proofs.Clearing.{cleared_to}
use Rattle.ledger.specs.Book.{thin_of, on_thin}
use lib.ListN.{length}
use mathlib.Core.Path.{◌≡◌}
use Rattle.ledger.proofs.clear_thin.Given as goal

abbrev pub invariant-loop-t : goal.invariant-loop-t
invariant-loop-t l =
    (thin_of l.thin ≡ on_thin l.column (cleared_to l.t) (thin_of l.initial.thin)) × (length l.thin ≡ length l.initial.thin)
