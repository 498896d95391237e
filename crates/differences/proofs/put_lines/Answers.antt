-- The two lines and the caret. Assumes nothing.
use Rattle.figures.proofs.Writing.{called, then}
use Rattle.differences.proofs.put_lines.Goals as goal

pub returns : goal.returns
returns c =
    called (rw c.common.ensures.value) (then (then c.put_shown.ensures c.put_shown-2.ensures) c.put_caret.ensures)
