-- `register_item` joins a name and a number. Assumes nothing.
use Rattle.std.proofs.Common.{arith}
use Rattle.grammar.specs.Grammar as G
use Rattle.grammar.specs.Reader.{and_then}
use Rattle.readers.proofs.Reading.{passed, stays, stills, wrote}
use Rattle.phrases.proofs.declarations.register_item.Goals as goal

pub returns-in_err-name-clause-read : goal.returns-in_err-name-clause-read
unfolding G.register_item and_then
returns-in_err-name-clause-read c =
    let name = c.in_err-name.ensures.read in rw (passed c.from_residual.ensures, name.is) (stays name (omega arith))

pub returns-in_err-in_parens-clause-read : goal.returns-in_err-in_parens-clause-read
unfolding G.register_item and_then
returns-in_err-in_parens-clause-read c =
    let number = c.in_err-in_parens.ensures.read in
    let name = c.in_ok-name.ensures.read in
    rw (passed c.from_residual-in_err-in_parens.ensures, name.is, ← name.same, number.is) (stays number (omega arith))

pub returns-clause-read : goal.returns-clause-read
unfolding G.register_item and_then
returns-clause-read c =
    let name = c.in_ok-name.ensures.read in
    let number = c.in_ok-in_parens.ensures.read in
    let still = stills c.in_ok-name.ensures.still c.in_ok-in_parens.ensures.still in
    let w = c.write.ensures in
    rw (name.is, ← name.same, number.is, ← number.same, ← w.same, ← w.here)
    (wrote (λ k. rw (← still.events, ← still.tape) (w.laid k)) (omega arith) (omega arith))
