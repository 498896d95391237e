-- `lay_literals` stores four bytes a literal. The invariant: the words of the literals that are left, laid from the place reached, make the whole. Assumes nothing.
use Prim.Native.Nat.{◌+◌, ◌*◌, ◌≤◌}
use mathlib.Core.Path.{◌≡◌}
use lib.ListN.{length, drop}
use lib.Seq.{sets}
use Rattle.translation.specs.Image.{words}
use Rattle.made.proofs.lay_literals.Given as goal

abbrev pub invariant-loop-i : goal.invariant-loop-i
invariant-loop-i l =
    (l.i ≤ length l.literals) × (length l.image ≡ length l.initial.image) × (sets l.image (l.start + 4 * l.i) (words (drop l.i l.literals)) ≡ sets l.initial.image l.start (words l.literals))
