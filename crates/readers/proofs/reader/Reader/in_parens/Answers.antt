-- `in_parens` takes three tokens one after the other. Assumes nothing.
use Rattle.std.proofs.Common.{arith, refl, ◌∙◌}
use Rattle.grammar.specs.Reader.{and_then}
use Rattle.readers.proofs.Reading.{passed, stays, stills}
use Rattle.readers.proofs.reader.Reader.in_parens.Goals as goal

pub returns-in_err-wanted-clause-read : goal.returns-in_err-wanted-clause-read
unfolding and_then
returns-in_err-wanted-clause-read c =
    let a = c.in_err-wanted.ensures.read in rw (passed c.from_residual.ensures, a.is) (stays a (omega arith))

pub returns-in_err-token-clause-read : goal.returns-in_err-token-clause-read
unfolding and_then
returns-in_err-token-clause-read c =
    let a = c.in_ok-wanted.ensures.read in let b = c.in_err-token.ensures.read in
    rw (passed c.from_residual-in_err-token.ensures, a.is, ← a.same, b.is) (stays b (omega arith))

pub returns-in_err-token-clause-still : goal.returns-in_err-token-clause-still
returns-in_err-token-clause-still c = stills c.in_ok-wanted.ensures.still c.in_err-token.ensures.still

pub returns-in_err-wanted-2-clause-read : goal.returns-in_err-wanted-2-clause-read
unfolding and_then
returns-in_err-wanted-2-clause-read c =
    let a = c.in_ok-wanted.ensures.read in let b = c.in_ok-token.ensures.read in let d = c.in_err-wanted-2.ensures.read in
    rw (passed c.from_residual-in_err-wanted-2.ensures, a.is, ← a.same, b.is, ← b.same, d.is) (stays d (omega arith))

pub returns-in_err-wanted-2-clause-still : goal.returns-in_err-wanted-2-clause-still
returns-in_err-wanted-2-clause-still c = stills (stills c.in_ok-wanted.ensures.still c.in_ok-token.ensures.still) c.in_err-wanted-2.ensures.still

pub returns-clause-read : goal.returns-clause-read
unfolding and_then
returns-clause-read c =
    let a = c.in_ok-wanted.ensures.read in let b = c.in_ok-token.ensures.read in let d = c.in_ok-wanted-2.ensures.read in
    record { is = rw (a.is, ← a.same, b.is, ← b.same, d.is) refl; same = d.same ∙ (b.same ∙ a.same); from = omega arith; onward = omega arith }

pub returns-clause-still : goal.returns-clause-still
returns-clause-still c = stills (stills c.in_ok-wanted.ensures.still c.in_ok-token.ensures.still) c.in_ok-wanted-2.ensures.still
