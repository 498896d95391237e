-- Head, lines and hint, of the lines with one number in both texts. Assumes nothing.
use Rattle.figures.proofs.Writing.{called, then}
use Rattle.differences.proofs.put_difference.Goals as goal

pub returns : goal.returns
returns c =
    called (rw (
      c.part-is.ensures,
      c.part-was.ensures,
      c.common.ensures.value,
    ))
    (then (then c.put_head.ensures c.put_lines.ensures) c.put_hint.ensures)
