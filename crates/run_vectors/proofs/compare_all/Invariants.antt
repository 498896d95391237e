-- `compare_all` stays in what is lent. Assumes nothing.
use Prim.Native.Nat.{◌<◌, ◌≤◌}
use lib.ListN.{length}
use mathlib.Core.Path.{◌≡◌}
use Rattle.run_vectors.proofs.compare_all.Given as goal

abbrev pub invariant-loop-number : goal.invariant-loop-number
invariant-loop-number g l =
    (l.at ≤ l.to) × (l.to ≤ length l.input)
    × (length l.input ≡ length l.initial.input) × (length l.store ≡ length l.initial.store) × (length l.out ≡ length l.initial.out) × (l.equal < l.number)
