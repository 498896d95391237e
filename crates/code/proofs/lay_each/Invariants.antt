-- One instruction behind the other. The invariant: what is laid holds of a state from which the instructions that are left lead to the whole. Assumes nothing.
use Prim.Native.Nat.{◌+◌, ◌*◌, ◌≤◌}
use mathlib.Core.Path.{◌≡◌}
use lib.ListN.{length, drop}
use Rattle.code.specs.Coding.{Laid, lay_all, Holds}
use Rattle.code.proofs.Holding.{Left}
use Rattle.code.proofs.lay_each.Given as goal

abbrev pub invariant-loop-c : goal.invariant-loop-c
invariant-loop-c l =
    (l.c-index ≤ length l.codes) × (l.p ≤ l.initial.p + 4 * l.c-index) × (l.n ≤ l.initial.n + l.c-index) × (l.n ≤ length l.initial.literals) × (length l.image ≡ length l.initial.image) × (length l.literals ≡ length l.initial.literals)
    × ((s : Laid) → Holds (length l.initial.literals) l.initial.p l.initial.n l.initial.image l.initial.literals s → Left l.start (length l.initial.literals) l.p l.n l.image l.literals (drop l.c-index l.codes) (lay_all l.start l.codes s))
