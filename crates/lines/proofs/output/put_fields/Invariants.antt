-- `put_fields` stays in the room lent. The invariant: the end lies in it. Assumes nothing.
use Rattle.std.proofs.Common.{◌≤◌, length}
use Rattle.lines.proofs.output.put_fields.Given as goal

abbrev pub invariant-loop-n : goal.invariant-loop-n
invariant-loop-n l = l.end ≤ length l.out
