-- `read` counts the segments. The invariant, `Reading`: those read, in front of what is read next, are the whole. Assumes nothing.
use Prim.Native.Nat.{◌+◌, ◌*◌, ◌≤◌}
use Rattle.objtext.proofs.Segments.{Reading}
use Rattle.objtext.specs.Reader.{data_line, content_length}
use Rattle.objtext.specs.Object.{content_limit}
use Rattle.objtext.proofs.read.Given as goal

abbrev pub invariant-loop-k : goal.invariant-loop-k
invariant-loop-k l =
    (l.at ≤ (data_line + content_length content_limit) * l.k) × Reading l.t l.k l.at
