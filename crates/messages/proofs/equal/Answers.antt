-- `equal` follows the definition. Assumes nothing.
use borrow.Author.Rules.{rules}
use Rattle.figures.proofs.Writing.{from_front, then}
use Rattle.messages.proofs.equal.Goals as goal

pub returns : goal.returns
returns c =
    from_front c.new-told.ensures (then (then (then c.put_all.ensures c.put_all-2.ensures) c.put_all-3.ensures) c.put_all-4.ensures) c.end.ensures (search rules)
