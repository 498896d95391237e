-- `numbers` goes along the numbers in parentheses. Assumes nothing.
use Rattle.std.proofs.Common.{arith, refl, ◌∙◌}
use borrow.Author.Tests.{eq-eqb, ne_eqb}
use Rattle.base.proofs.Tests.{same, other}
use Rattle.grammar.specs.Grammar as G
use Rattle.grammar.specs.Reader.{and_then, look}
use Rattle.tape.specs.Tape.{tape_each}
use Rattle.readers.proofs.Reading.{passed, stays, wrote}
use Rattle.std.proofs.Common.{◌∷◌}
use Rattle.readers.proofs.Loops.{starts, turn}
use Rattle.phrases.proofs.declarations.numbers.Goals as goal

pub loop-r-init : goal.loop-r-init
loop-r-init c =
    starts

pub returns-in_err-number-clause-read : goal.returns-in_err-number-clause-read
unfolding G.numbers and_then look
returns-in_err-number-clause-read c =
    let one = c.in_err-number.ensures.read in
    let v = c.loop-r.invariant in
    rw (passed c.from_residual.ensures, v.rest, eq-eqb _ _ (same c.kind.ensures.is c.loop-r-test.true), ← v.same, one.is) (stays one (omega arith))

pub loop-r-preserved : goal.loop-r-preserved
unfolding G.numbers and_then look tape_each
loop-r-preserved c =
    let one = c.in_ok-number.ensures.read in
    let still = c.in_ok-number.ensures.still in
    let w = c.write.ensures in
    turn (λ ts. c.in_ok-number.number ∷ ts) c.loop-r.invariant (omega arith) (omega arith) (w.same ∙ one.same)
    (w.name ∙ still.name)
    (λ f. rw (eq-eqb _ _ (same c.kind.ensures.is c.loop-r-test.true), one.is, ← one.same, ← w.same, ← w.here) refl)
    (λ v after ts l k. l k ∙ rw (← still.events, ← still.tape) (w.laid _))

pub returns-clause-read : goal.returns-clause-read
unfolding G.numbers and_then look tape_each
returns-clause-read c =
    let v = c.loop-r.invariant in
    rw (v.rest, ne_eqb _ _ (other c.kind.ensures.is c.loop-r-test.false), ← v.same)
    (wrote (v.fits _ _ _ (λ k. refl)) (omega arith) (omega arith))
