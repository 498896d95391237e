-- `procedure_head` joins the tokens before a procedure's statement. Assumes nothing.
use Rattle.std.proofs.Common.{arith}
use Rattle.grammar.specs.Reader.{and_then}
use Rattle.readers.proofs.Reading.{passed, stays, stills, wrote}
use Rattle.readers.proofs.Reading.{want-is}
use Rattle.phrases.proofs.simple.procedure_head.Goals as goal

pub returns-in_err-name-clause-read : goal.returns-in_err-name-clause-read
unfolding and_then
returns-in_err-name-clause-read c =
    let name = c.in_err-name.ensures.read in
    rw (passed c.from_residual.ensures, name.is) (stays name (omega arith))

pub returns-in_err-in_parens-clause-read : goal.returns-in_err-in_parens-clause-read
unfolding and_then
returns-in_err-in_parens-clause-read c =
    let name = c.in_ok-name.ensures.read in
    let register = c.in_err-in_parens.ensures.read in
    rw (passed c.from_residual-in_err-in_parens.ensures, name.is, ← name.same, register.is) (stays register (omega arith))

pub returns-in_err-wanted-clause-read : goal.returns-in_err-wanted-clause-read
unfolding and_then
returns-in_err-wanted-clause-read c =
    let name = c.in_ok-name.ensures.read in
    let register = c.in_ok-in_parens.ensures.read in
    let semicolon = c.in_err-wanted.ensures.read in
    rw (passed c.from_residual-in_err-wanted.ensures, name.is, ← name.same, register.is, ← register.same, semicolon.is) (stays semicolon (omega arith))

pub returns-clause-read : goal.returns-clause-read
unfolding and_then
returns-clause-read c =
    let name = c.in_ok-name.ensures.read in
    let register = c.in_ok-in_parens.ensures.read in
    let semicolon = c.in_ok-wanted.ensures.read in
    let still = stills (stills c.in_ok-name.ensures.still c.in_ok-in_parens.ensures.still) c.in_ok-wanted.ensures.still in
    let w = c.write.ensures in
    let e = want-is _ _ _ _ _ name.is in
    rw (name.is, ← name.same, register.is, ← register.same, semicolon.is, ← semicolon.same, ← w.same, ← w.here)
    (wrote (λ k. rw (← e, ← still.events, ← still.tape) (w.laid k)) (omega arith) (omega arith), omega arith)
