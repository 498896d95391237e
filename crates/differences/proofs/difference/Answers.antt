-- The difference in the line that `line_at` finds, from the front of the room. Assumes nothing.
use borrow.Author.Rules.{rules}
use Rattle.figures.proofs.Writing.{called, from_front}
use Rattle.differences.proofs.difference.Goals as goal

pub returns : goal.returns
returns c =
    from_front c.new-text.ensures (called (rw c.line_at-line.ensures.0) c.put_difference.ensures) c.end.ensures (search rules)
