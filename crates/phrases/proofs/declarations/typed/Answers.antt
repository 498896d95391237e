-- `typed` tells registers from cells behind a type. Assumes nothing.
use Rattle.std.proofs.Common.{arith, ◌∙◌}
use Rattle.grammar.specs.Grammar as G
use Rattle.grammar.specs.Tree as T
use Rattle.grammar.specs.Reader.{and_then}
use Rattle.tape.specs.Tape.{tape_declaration}
use Rattle.readers.proofs.Reading.{passed, stays, gives}
use Rattle.std.proofs.Math.Option.{none}
use Rattle.readers.proofs.Choices.{registered, after-registers, after-cells}
use Rattle.phrases.proofs.declarations.typed.Goals as goal

pub returns-in_err-width-clause-read : goal.returns-in_err-width-clause-read
unfolding and_then
returns-in_err-width-clause-read c =
    let width = c.in_err-width.ensures.read in rw (passed c.from_residual.ensures, width.is) (stays width (omega arith))

pub take-requires : goal.take-requires
take-requires c =
    registered _ c.kind.ensures c.if-width-kind.true

pub returns-then-width-kind-clause-read : goal.returns-then-width-kind-clause-read
unfolding and_then tape_declaration
returns-then-width-kind-clause-read c =
    let width = c.in_ok-width.ensures.read.0 in
    let still = c.in_ok-width.ensures.still in
    let t = c.take.ensures.moved in
    rw (
      width.is,
      ← width.same,
      after-registers _ _ c.kind.ensures width.fits.0 c.if-width-kind.true,
      ← t.same,
      ← t.there,
      ← still.events,
      ← t.events,
      ← still.tape,
      ← t.tape,
    )
    (gives _ _ T.registers _ _ _ _ _ _ _ _ _ _ (omega arith) (omega arith) (λ rs l. l) c.registers.ensures.read)

pub returns-clause-read : goal.returns-clause-read
unfolding and_then G.cells_of tape_declaration
returns-clause-read c =
    let width = c.in_ok-width.ensures.read.0 in
    let far = c.in_ok-width.ensures.read.1 in
    let still = c.in_ok-width.ensures.still in
    let w = c.write.ensures in
    rw (width.is, ← width.same, after-cells _ _ c.kind.ensures width.fits.0 c.if-width-kind.false, ← w.same, ← w.here)
    (gives _ _ (T.cells none width.what) _ _ _ _ _ _ _ _ _ _ (omega arith) (omega arith)
    (λ is l k. l k ∙ rw (← width.fits.0, ← still.events, ← still.tape) (w.laid _)) c.cells.ensures.read)
