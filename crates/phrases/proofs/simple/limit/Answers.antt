-- `limit` joins number, UNTIL, operand and DO. Assumes nothing.
use Rattle.std.proofs.Common.{arith}
use Rattle.grammar.specs.Reader.{and_then}
use Rattle.readers.proofs.Reading.{passed, stays, stills, wrote}
use Rattle.phrases.proofs.simple.limit.Goals as goal

pub returns-in_err-wanted-clause-read : goal.returns-in_err-wanted-clause-read
unfolding and_then
returns-in_err-wanted-clause-read c =
    let number = c.in_err-wanted.ensures.read in
    rw (passed c.from_residual.ensures, number.is) (stays number (omega arith))

pub returns-in_err-wanted-2-clause-read : goal.returns-in_err-wanted-2-clause-read
unfolding and_then
returns-in_err-wanted-2-clause-read c =
    let number = c.in_ok-wanted.ensures.read in
    let until = c.in_err-wanted-2.ensures.read in
    rw (passed c.from_residual-in_err-wanted-2.ensures, number.is, ← number.same, until.is) (stays until (omega arith))

pub returns-in_err-operand-clause-read : goal.returns-in_err-operand-clause-read
unfolding and_then
returns-in_err-operand-clause-read c =
    let number = c.in_ok-wanted.ensures.read in
    let until = c.in_ok-wanted-2.ensures.read in
    let a = c.in_err-operand.ensures.read in
    rw (passed c.from_residual-in_err-operand.ensures, number.is, ← number.same, until.is, ← until.same, a.is) (stays a (omega arith))

pub returns-in_err-wanted-3-clause-read : goal.returns-in_err-wanted-3-clause-read
unfolding and_then
returns-in_err-wanted-3-clause-read c =
    let number = c.in_ok-wanted.ensures.read in
    let until = c.in_ok-wanted-2.ensures.read in
    let a = c.in_ok-operand.ensures.read in
    let word = c.in_err-wanted-3.ensures.read in
    rw (passed c.from_residual-in_err-wanted-3.ensures, number.is, ← number.same, until.is, ← until.same, a.is, ← a.same, word.is) (stays word (omega arith))

pub returns-clause-read : goal.returns-clause-read
unfolding and_then
returns-clause-read c =
    let number = c.in_ok-wanted.ensures.read in
    let until = c.in_ok-wanted-2.ensures.read in
    let a = c.in_ok-operand.ensures.read in
    let word = c.in_ok-wanted-3.ensures.read in
    let first = stills c.in_ok-wanted.ensures.still c.in_ok-wanted-2.ensures.still in
    let still = c.in_ok-wanted-3.ensures.still in
    rw (number.is, ← number.same, until.is, ← until.same, a.is, ← a.same, word.is, ← word.same)
    (wrote (λ k. rw (still.events, still.tape, ← first.events, ← first.tape) (a.laid k)) (omega arith) (omega arith), omega arith)
