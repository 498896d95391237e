-- `fill` lays the content. The invariant: what is left of the content, laid from the place reached, makes the whole. Assumes nothing.
use Prim.Native.Nat.{◌+◌}
use mathlib.Core.Path.{◌≡◌}
use lib.ListN.{length, drop}
use lib.Seq.{sets}
use Rattle.objtext.specs.Object.{frames_for}
use Rattle.objtext.specs.Reader.{content_at}
use Rattle.objtext.proofs.fill.Given as goal

abbrev pub invariant-loop-j : goal.invariant-loop-j
invariant-loop-j l =
    (length l.s ≡ length l.initial.s) × (sets l.s (l.at + l.j) (drop l.j (content_at (frames_for l.n) l.n (drop l.i l.t))) ≡ sets l.initial.s l.at (content_at (frames_for l.n) l.n (drop l.i l.t)))
