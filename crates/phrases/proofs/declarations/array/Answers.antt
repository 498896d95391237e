-- `array` joins a number, a type and cells. Assumes nothing.
use Rattle.std.proofs.Common.{arith, ◌∙◌}
use Rattle.grammar.specs.Grammar as G
use Rattle.grammar.specs.Tree as T
use Rattle.grammar.specs.Reader.{and_then}
use Rattle.tape.specs.Tape.{tape_declaration}
use Rattle.readers.proofs.Reading.{passed, stays, stills, gives}
use Rattle.std.proofs.Math.Option.{some}
use Rattle.phrases.proofs.declarations.array.Goals as goal

pub returns-in_err-count-clause-read : goal.returns-in_err-count-clause-read
unfolding and_then
returns-in_err-count-clause-read c =
    let count = c.in_err-count.ensures.read in rw (passed c.from_residual.ensures, count.is) (stays count (omega arith))

pub returns-in_err-width-clause-read : goal.returns-in_err-width-clause-read
unfolding and_then
returns-in_err-width-clause-read c =
    let width = c.in_err-width.ensures.read in
    let count = c.in_ok-count.ensures.read in
    rw (passed c.from_residual-in_err-width.ensures, count.is, ← count.same, width.is) (stays width (omega arith))

pub returns-clause-read : goal.returns-clause-read
unfolding and_then G.cells_of tape_declaration
returns-clause-read c =
    let count = c.in_ok-count.ensures.read in
    let width = c.in_ok-width.ensures.read.0 in
    let still = stills c.in_ok-count.ensures.still c.in_ok-width.ensures.still in
    let w = c.write.ensures in
    rw (count.is, ← count.same, width.is, ← width.same, ← w.same, ← w.here)
    (gives _ _ (T.cells (some c.in_ok-count.count) width.what) _ _ _ _ _ _ _ _ _ _ (omega arith) (omega arith)
    (λ is l k. l k ∙ rw (← width.fits.0, ← still.events, ← still.tape) (w.laid _)) c.cells.ensures.read)
