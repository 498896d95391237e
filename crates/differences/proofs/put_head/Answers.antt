-- Place, kind of line, end. Assumes nothing.
use Rattle.figures.proofs.Writing.{called, then}
use Rattle.differences.proofs.put_head.Goals as goal

pub returns : goal.returns
returns c =
    called (rw c.common-column.ensures.value) (then (then c.put_about.ensures c.put_kind.ensures) c.put_end.ensures)
