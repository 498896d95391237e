-- `in_chain` finds the first label of a chain with a key. The invariant: what the whole chain gives, the rest of it gives. Assumes nothing.
use Rattle.names.specs.Chains.{chain}
use Rattle.scopes.specs.Search.{in_block}
use Rattle.ledger.specs.Book.{wide_of, thin_of, thin_limit}
use mathlib.Core.Path.{◌≡◌}
use Prim.Native.Nat.{ℕ, ◌<◌}
use Rattle.names.proofs.labels.in_chain.Given as goal

abbrev pub invariant-loop-l : goal.invariant-loop-l
invariant-loop-l l =
    ((further : ℕ) → in_block (wide_of l.wide).values l.wanted (chain (thin_of l.thin).opens l.newest) further
    ≡ in_block (wide_of l.wide).values l.wanted (chain (thin_of l.thin).opens l.l) further)
    × (l.l < thin_limit)

abbrev pub decreases-loop-l : goal.decreases-loop-l
decreases-loop-l l =
    l.l
