-- The end lies in the room, and what was read before the end; each read that the loop goes on after takes up room.
use Rattle.std.proofs.Common.{◌≤◌, ◌-◌, length}
use Rattle.files.proofs.read_all.Given as goal

abbrev pub invariant-loop-n : goal.invariant-loop-n
invariant-loop-n g l = (l.n ≤ l.end) × (l.end ≤ length l.room)

abbrev pub decreases-loop-n : goal.decreases-loop-n
decreases-loop-n g l = length l.initial.room - l.n
