-- `is_content` is the definition's content. The invariant: the frames that are left, from the place reached, decide the whole. Assumes nothing.
use Prim.Native.Nat.{◌+◌, ◌-◌, ◌*◌}
use mathlib.Core.Path.{◌≡◌}
use lib.ListN.{drop}
use Rattle.objtext.specs.Object.{frames_for}
use Rattle.objtext.specs.Reader.{is_content, frame_line}
use Rattle.objtext.proofs.is_content.Given as goal

abbrev pub invariant-loop-m : goal.invariant-loop-m
invariant-loop-m l = is_content (frames_for l.n - l.m) l.k (16 * l.m) (l.n - 16 * l.m) (drop (l.i + frame_line * l.m) l.t) ≡ is_content (frames_for l.n) l.k 0 l.n (drop l.i l.t)
