-- `lookup` finds the label that a key means. The invariant: the search through all blocks gives what the search through those that are left gives. Assumes nothing.
use Rattle.names.specs.Chains.{blocks_in}
use Rattle.scopes.specs.Search.{find}
use Rattle.ledger.specs.Book.{wide_of, thin_of}
use mathlib.Core.Path.{◌≡◌}
use Rattle.names.proofs.labels.lookup.Given as goal

abbrev pub invariant-loop-b : goal.invariant-loop-b
invariant-loop-b l =
    find (wide_of l.wide).values l.wanted (blocks_in (thin_of l.thin).opens (thin_of l.thin).written l.block)
    ≡ find (wide_of l.wide).values l.wanted (blocks_in (thin_of l.thin).opens (thin_of l.thin).written l.b)

abbrev pub decreases-loop-b : goal.decreases-loop-b
decreases-loop-b l =
    l.b
