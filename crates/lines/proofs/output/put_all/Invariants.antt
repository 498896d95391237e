-- `put_all` stays in the room lent. The invariant: the end lies in it. Assumes nothing.
use Rattle.std.proofs.Common.{◌≤◌, length}
use Rattle.lines.proofs.output.put_all.Given as goal

abbrev pub invariant-loop-b : goal.invariant-loop-b
invariant-loop-b l = l.end ≤ length l.out
