-- `put_hex` lays two digits a byte. The invariant: the digits of the bytes that are left, laid from the place reached, make the whole. Assumes nothing.
use Prim.Native.Nat.{◌+◌, ◌*◌}
use mathlib.Core.Path.{◌≡◌}
use lib.ListN.{length, drop}
use lib.Seq.{sets}
use Rattle.objtext.specs.Object.{hex}
use Rattle.frames.proofs.put_hex.Given as goal

abbrev pub invariant-loop-i : goal.invariant-loop-i
invariant-loop-i l =
    (length l.out ≡ length l.initial.out) × (sets l.out (l.at + 2 * l.i) (hex (drop l.i l.bytes)) ≡ sets l.initial.out l.at (hex l.bytes))
