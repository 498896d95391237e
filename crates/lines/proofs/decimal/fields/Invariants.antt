-- `fields` stays in the text. Assumes nothing.
use Rattle.std.proofs.Common.{◌≤◌, length}
use Rattle.lines.proofs.decimal.fields.Given as goal

abbrev pub invariant-loop-i : goal.invariant-loop-i
invariant-loop-i l = l.at ≤ length l.s
