-- `cell_item` joins a name and its numbers. Assumes nothing.
use Rattle.std.proofs.Common.{arith, ◌∙◌}
use Rattle.grammar.specs.Grammar as G
use Rattle.grammar.specs.Reader.{and_then}
use Rattle.tape.specs.Tape.{tape_item}
use Rattle.readers.proofs.Reading.{passed, stays, gives}
use Rattle.phrases.proofs.declarations.cell_item.Goals as goal

pub returns-in_err-name-clause-read : goal.returns-in_err-name-clause-read
unfolding G.cell_item and_then
returns-in_err-name-clause-read c =
    let name = c.in_err-name.ensures.read in rw (passed c.from_residual.ensures, name.is) (stays name (omega arith))

pub returns-clause-read : goal.returns-clause-read
unfolding G.cell_item and_then tape_item
returns-clause-read c =
    let name = c.in_ok-name.ensures.read in
    let still = c.in_ok-name.ensures.still in
    let w = c.write.ensures in
    rw (name.is, ← name.same, ← w.same, ← w.here)
    (gives _ _ (λ ts. record { name = c.in_ok-name.name; numbers = ts }) _ _ _ _ _ _ _ _ _ _ (omega arith) (omega arith)
    (λ ts l k. l k ∙ rw (← still.events, ← still.tape) (w.laid _)) c.numbers.ensures.read)
