-- `write` puts one event more on the tape. Assumes nothing.
use borrow.Author.Rules.{rules}
use Rattle.tape.specs.Tape.{event}
use Rattle.readers.proofs.Reading.{pushed}
use Rattle.readers.proofs.events.write.Goals as goal

pub returns : goal.returns
returns c =
    rw c.put.ensures (pushed c.args.tape.now c.args.p (event c.args.op c.args.token) (search rules))
