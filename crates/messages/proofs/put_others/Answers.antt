-- `put_others` puts the line and the carets below it. Assumes nothing.
use Rattle.figures.proofs.Writing.{called, then}
use Rattle.messages.proofs.put_others.Goals as goal

pub returns : goal.returns
returns c =
    called (rw (c.shown_line.ensures, c.shown_before-before.ensures, c.wide_at-wide.ensures, c.note_at-k.ensures)) (then c.put_line.ensures c.put_carets.ensures)
