-- The report's lines in turn. Assumes nothing.
use borrow.Author.Rules.{rules}
use Rattle.figures.proofs.Writing.{from_front, then}
use Rattle.reports.proofs.report.Goals as goal

pub returns : goal.returns
returns c =
    from_front c.new-text.ensures (then (then (then (then c.put_stop.ensures c.put_figure.ensures) c.put_figure-2.ensures) c.put_told.ensures) c.put_registers.ensures)
    c.end.ensures (search rules)
