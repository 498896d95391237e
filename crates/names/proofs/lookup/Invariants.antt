-- `lookup` finds the declaration that a key means. The invariants: the search through all blocks gives what the search through the blocks, and the entries of the block at hand, that are left gives. Assumes nothing.
use Rattle.names.specs.Flat.{span, blocks_of}
use Rattle.scopes.specs.Search.{in_block, find}
use Rattle.ledger.specs.Book.{wide_of, thin_of}
use mathlib.Core.Path.{◌≡◌}
use Rattle.names.proofs.lookup.Given as goal

abbrev pub invariant-loop-j : goal.invariant-loop-j
invariant-loop-j l =
    (l.found ≡ 0)
    × (find (wide_of l.wide).values l.wanted (blocks_of (thin_of l.thin).opens (thin_of l.thin).written l.depth l.count)
    ≡ in_block (wide_of l.wide).values l.wanted (span (thin_of l.thin).opens l.start l.j)
    (find (wide_of l.wide).values l.wanted (blocks_of (thin_of l.thin).opens (thin_of l.thin).written l.b l.start)))

abbrev pub invariant-search : goal.invariant-search
invariant-search l =
    (l.found ≡ 0)
    × (find (wide_of l.wide).values l.wanted (blocks_of (thin_of l.thin).opens (thin_of l.thin).written l.depth l.count)
    ≡ find (wide_of l.wide).values l.wanted (blocks_of (thin_of l.thin).opens (thin_of l.thin).written l.b l.end))
