-- `put` stores one event. Assumes nothing.
use borrow.Author.Rules.{rules}
use Rattle.readers.proofs.Reading.{event-is}
use Rattle.readers.proofs.events.put.Goals as goal

pub returns : goal.returns
returns c =
    rw (event-is c.args.op c.args.token (search rules))
