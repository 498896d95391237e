-- `case_head` joins the tokens before the list of a CASE. Assumes nothing.
use Rattle.std.proofs.Common.{arith}
use Rattle.grammar.specs.Reader.{and_then}
use Rattle.readers.proofs.Reading.{passed, stays, stills, wrote}
use Rattle.phrases.proofs.simple.case_head.Goals as goal

pub returns-in_err-name-clause-read : goal.returns-in_err-name-clause-read
unfolding and_then
returns-in_err-name-clause-read c =
    let name = c.in_err-name.ensures.read in
    rw (passed c.from_residual.ensures, name.is) (stays name (omega arith))

pub returns-in_err-wanted-clause-read : goal.returns-in_err-wanted-clause-read
unfolding and_then
returns-in_err-wanted-clause-read c =
    let name = c.in_ok-name.ensures.read in
    let of = c.in_err-wanted.ensures.read in
    rw (passed c.from_residual-in_err-wanted.ensures, name.is, ← name.same, of.is) (stays of (omega arith))

pub returns-in_err-wanted-2-clause-read : goal.returns-in_err-wanted-2-clause-read
unfolding and_then
returns-in_err-wanted-2-clause-read c =
    let name = c.in_ok-name.ensures.read in
    let of = c.in_ok-wanted.ensures.read in
    let begin = c.in_err-wanted-2.ensures.read in
    rw (passed c.from_residual-in_err-wanted-2.ensures, name.is, ← name.same, of.is, ← of.same, begin.is) (stays begin (omega arith))

pub returns-clause-read : goal.returns-clause-read
unfolding and_then
returns-clause-read c =
    let name = c.in_ok-name.ensures.read in
    let of = c.in_ok-wanted.ensures.read in
    let begin = c.in_ok-wanted-2.ensures.read in
    let still = stills (stills c.in_ok-name.ensures.still c.in_ok-wanted.ensures.still) c.in_ok-wanted-2.ensures.still in
    let w = c.write.ensures in
    rw (name.is, ← name.same, of.is, ← of.same, begin.is, ← begin.same, ← w.same, ← w.here)
    (wrote (λ k. rw (← still.events, ← still.tape) (w.laid k)) (omega arith) (omega arith))
