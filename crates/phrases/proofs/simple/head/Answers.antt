-- `head` joins a condition and a word. Assumes nothing.
use Rattle.std.proofs.Common.{arith}
use Rattle.grammar.specs.Reader.{and_then}
use Rattle.readers.proofs.Reading.{passed, stays, wrote}
use Rattle.phrases.proofs.simple.head.Goals as goal

pub returns-in_err-condition-clause-read : goal.returns-in_err-condition-clause-read
unfolding and_then
returns-in_err-condition-clause-read c =
    let x = c.in_err-condition.ensures.read in rw (passed c.from_residual.ensures, x.is) (stays x (omega arith))

pub returns-in_err-wanted-clause-read : goal.returns-in_err-wanted-clause-read
unfolding and_then
returns-in_err-wanted-clause-read c =
    let x = c.in_ok-condition.ensures.read in
    let w = c.in_err-wanted.ensures.read in rw (passed c.from_residual-in_err-wanted.ensures, x.is, ← x.same, w.is) (stays w (omega arith))

pub returns-clause-read : goal.returns-clause-read
unfolding and_then
returns-clause-read c =
    let x = c.in_ok-condition.ensures.read in
    let w = c.in_ok-wanted.ensures.read in
    let still = c.in_ok-wanted.ensures.still in
    rw (x.is, ← x.same, w.is, ← w.same) (wrote (λ k. rw (still.events, still.tape) (x.laid k)) (omega arith) (omega arith), omega arith)
