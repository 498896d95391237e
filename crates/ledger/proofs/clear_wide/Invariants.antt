-- `clear_wide` puts 0 in row after row. The invariant: the rows passed are zeros in the column. Assumes nothing.
use Rattle.ledger.proofs.Clearing.{cleared_to}
use Rattle.ledger.specs.Book.{wide_of, on_wide}
use lib.ListN.{length}
use mathlib.Core.Path.{◌≡◌}
use Rattle.ledger.proofs.clear_wide.Given as goal

abbrev pub invariant-loop-t : goal.invariant-loop-t
invariant-loop-t l =
    (wide_of l.wide ≡ on_wide l.column (cleared_to l.t) (wide_of l.initial.wide)) × (length l.wide ≡ length l.initial.wide)
