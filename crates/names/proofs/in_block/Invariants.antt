-- `in_block` finds the newest entry with a key. The invariant: what the whole block gives, the entries that are left give. Assumes nothing.
use Rattle.names.specs.Flat.{span}
use Rattle.scopes.specs.Search.{in_block}
use Rattle.ledger.specs.Book.{wide_of, thin_of}
use Prim.Native.Nat.{ℕ}
use mathlib.Core.Path.{◌≡◌}
use Rattle.names.proofs.in_block.Given as goal

abbrev pub invariant-loop-j : goal.invariant-loop-j
invariant-loop-j l =
    (further : ℕ) → in_block (wide_of l.wide).values l.wanted (span (thin_of l.thin).opens l.lo l.hi) further
    ≡ in_block (wide_of l.wide).values l.wanted (span (thin_of l.thin).opens l.lo l.j) further
