-- `message` is written from the front of the room. Assumes nothing.
use borrow.Author.Rules.{rules}
use Rattle.figures.proofs.Writing.{from_front}
use Rattle.messages.proofs.message.Goals as goal

pub returns : goal.returns
returns c = from_front c.new-told.ensures c.put_message.ensures c.end.ensures (search rules)
