-- `put_content` lays a frame after the other. The invariant: the frames that are left, laid from the place reached, make the whole. Assumes nothing.
use Prim.Native.Nat.{◌+◌, ◌-◌, ◌*◌}
use mathlib.Core.Path.{◌≡◌}
use lib.Seq.{sets}
use lib.ListN.{length}
use Rattle.frames.proofs.Lines.{rest}
use Rattle.objtext.specs.Reader.{content_length}
use Rattle.objtext.specs.Object.{text_of, content_frames, frames_for}
use Rattle.frames.proofs.put_content.Given as goal

abbrev pub invariant-loop-m : goal.invariant-loop-m
invariant-loop-m l =
    (length l.out ≡ length l.initial.out)
    × (l.end + content_length (length l.content - 16 * l.m) ≡ l.at + content_length (length l.content))
    × (sets l.out l.end (rest l.k l.content l.m) ≡ sets l.initial.out l.at (text_of (content_frames (frames_for (length l.content)) l.k 0 l.content)))
