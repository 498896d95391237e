-- `control` joins a name, its assignment and STEP. Assumes nothing.
use Rattle.std.proofs.Common.{arith}
use Rattle.grammar.specs.Reader.{and_then}
use Rattle.readers.proofs.Reading.{passed, stays, wrote}
use Rattle.phrases.proofs.simple.control.Goals as goal

pub returns-in_err-name-clause-read : goal.returns-in_err-name-clause-read
unfolding and_then
returns-in_err-name-clause-read c =
    let name = c.in_err-name.ensures.read in
    rw (passed c.from_residual.ensures, name.is) (stays name (omega arith))

pub returns-in_err-assignment-clause-read : goal.returns-in_err-assignment-clause-read
unfolding and_then
returns-in_err-assignment-clause-read c =
    let name = c.in_ok-name.ensures.read in
    let a = c.in_err-assignment.ensures.read in
    rw (passed c.from_residual-in_err-assignment.ensures, name.is, ← name.same, a.is) (stays a (omega arith))

pub returns-in_err-wanted-clause-read : goal.returns-in_err-wanted-clause-read
unfolding and_then
returns-in_err-wanted-clause-read c =
    let name = c.in_ok-name.ensures.read in
    let a = c.in_ok-assignment.ensures.read in
    let step = c.in_err-wanted.ensures.read in
    rw (passed c.from_residual-in_err-wanted.ensures, name.is, ← name.same, a.is, ← a.same, step.is) (stays step (omega arith))

pub returns-clause-read : goal.returns-clause-read
unfolding and_then
returns-clause-read c =
    let name = c.in_ok-name.ensures.read in
    let a = c.in_ok-assignment.ensures.read in
    let step = c.in_ok-wanted.ensures.read in
    let named = c.in_ok-name.ensures.still in
    let still = c.in_ok-wanted.ensures.still in
    rw (name.is, ← name.same, a.is, ← a.same, step.is, ← step.same)
    (wrote (λ k. rw (still.events, still.tape, ← named.events, ← named.tape) (a.laid k)) (omega arith) (omega arith), omega arith)
