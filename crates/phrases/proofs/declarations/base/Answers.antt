-- `base` joins BASE and a name. Assumes nothing.
use Rattle.std.proofs.Common.{arith}
use Rattle.grammar.specs.Reader.{and_then}
use Rattle.tape.specs.Tape.{tape_declaration}
use Rattle.readers.proofs.Reading.{passed, stays, stills, wrote}
use Rattle.phrases.proofs.declarations.base.Goals as goal

pub returns-in_err-wanted-clause-read : goal.returns-in_err-wanted-clause-read
unfolding and_then
returns-in_err-wanted-clause-read c =
    let word = c.in_err-wanted.ensures.read in rw (passed c.from_residual.ensures, word.is) (stays word (omega arith))

pub returns-in_err-name-clause-read : goal.returns-in_err-name-clause-read
unfolding and_then
returns-in_err-name-clause-read c =
    let name = c.in_err-name.ensures.read in
    let word = c.in_ok-wanted.ensures.read in
    rw (passed c.from_residual-in_err-name.ensures, word.is, ← word.same, name.is) (stays name (omega arith))

pub returns-clause-read : goal.returns-clause-read
unfolding and_then tape_declaration
returns-clause-read c =
    let word = c.in_ok-wanted.ensures.read in
    let name = c.in_ok-name.ensures.read in
    let still = stills c.in_ok-wanted.ensures.still c.in_ok-name.ensures.still in
    let w = c.write.ensures in
    rw (word.is, ← word.same, name.is, ← name.same, ← w.same, ← w.here)
    (wrote (λ k. rw (← still.events, ← still.tape) (w.laid k)) (omega arith) (omega arith))
