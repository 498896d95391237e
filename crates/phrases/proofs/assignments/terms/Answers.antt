-- `terms` goes along operators and operands. Assumes nothing.
use Rattle.std.proofs.Common.{arith, refl, ◌∙◌}
use Rattle.grammar.specs.Grammar as G
use Rattle.grammar.specs.Reader.{and_then, look, next}
use Rattle.tape.specs.Tape.{tape_each}
use Rattle.readers.proofs.Reading.{passed, stays, wrote}
use Rattle.std.proofs.Common.{◌∷◌}
use Rattle.readers.proofs.Choices.{among}
use Rattle.readers.proofs.Loops.{starts, turn}
use Rattle.phrases.proofs.assignments.terms.Goals as goal

pub loop-r-init : goal.loop-r-init
loop-r-init c =
    starts

pub returns-in_err-operand-clause-read : goal.returns-in_err-operand-clause-read
unfolding G.terms and_then look next
returns-in_err-operand-clause-read c =
    let t = c.take.ensures.moved in
    let a = c.in_err-operand.ensures.read in
    let v = c.loop-r.invariant in
    rw (
      passed c.from_residual.ensures,
      v.rest,
      among G.operators c.kind.ensures c.is_operator.ensures c.loop-r-test.true,
      ← v.same,
      ← t.there,
      ← t.same,
      a.is,
    )
    (stays a (omega arith))

pub loop-r-preserved : goal.loop-r-preserved
unfolding G.terms and_then look next tape_each
loop-r-preserved c =
    let t = c.take.ensures.moved in
    let a = c.in_ok-operand.ensures.read in
    turn (λ ts. record { operator = c.loop-r.r.at; operand = a.what } ∷ ts) c.loop-r.invariant (omega arith) (omega arith) (a.same ∙ t.same)
    (c.in_ok-operand.ensures.same ∙ t.name)
    (λ f. rw (among G.operators c.kind.ensures c.is_operator.ensures c.loop-r-test.true, ← t.there, ← t.same, a.is, ← a.same) refl)
    (λ v after ts l k. l k ∙ rw (← t.events, ← t.tape) (a.laid _))

pub returns-clause-read : goal.returns-clause-read
unfolding G.terms and_then look next tape_each
returns-clause-read c =
    let v = c.loop-r.invariant in
    rw (v.rest, among G.operators c.kind.ensures c.is_operator.ensures c.loop-r-test.false, ← v.same)
    (wrote (v.fits _ _ _ (λ k. refl)) (omega arith) (omega arith))
