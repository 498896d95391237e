-- The page of the table is put. Assumes nothing.
use borrow.Author.Rules.{rules}
use Rattle.figures.proofs.Writing.{from_place, called}
use Rattle.helping.proofs.put_page.Goals as goal

pub returns : goal.returns
returns c =
    from_place c.up_to-text.ensures (called c.entry.ensures c.put_all.ensures) c.end.ensures (search rules)
