-- `fault` follows the definition. Assumes nothing.
use borrow.Author.Rules.{rules}
use Rattle.figures.proofs.Writing.{called, from_front, then}
use Rattle.messages.proofs.fault.Goals as goal

pub returns : goal.returns
returns c =
    from_front c.new-told.ensures
    (then (then (then (then c.put_all.ensures c.put_all-2.ensures) c.put_all-3.ensures) (called c.entry.ensures c.put_all-4.ensures)) c.put_all-5.ensures)
    c.end.ensures (search rules)
