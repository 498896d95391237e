-- `lay` stores the low bytes, the last first. The invariant: the bytes that are left make the whole. Assumes nothing.
use Prim.Native.Nat.{◌≤◌}
use mathlib.Core.Path.{◌≡◌}
use lib.ListN.{length}
use Rattle.base.specs.Numbers.{stored}
use Rattle.layout.proofs.lay.Given as goal

abbrev pub invariant-loop-i : goal.invariant-loop-i
invariant-loop-i l =
    (l.i ≤ l.n) × (length l.s ≡ length l.initial.s) × (stored l.s l.at l.i l.rest ≡ stored l.initial.s l.at l.n l.v)
