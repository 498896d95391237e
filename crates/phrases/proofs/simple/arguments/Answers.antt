-- `arguments` goes along the row. Assumes nothing.
use Rattle.std.proofs.Common.{arith, rules, refl, ◌∙◌}
use borrow.Author.Tests.{ne_eqb}
use Rattle.base.proofs.Tests.{same, other}
use Rattle.grammar.specs.Grammar as G
use Rattle.grammar.specs.Reader.{and_then, look, next}
use Rattle.tape.specs.Tape.{tape_each}
use Rattle.readers.proofs.Reading.{passed, stays, wrote}
use Rattle.std.proofs.Common.{◌∷◌}
use Rattle.readers.proofs.Loops.{starts, turn}
use Rattle.phrases.proofs.simple.arguments.Goals as goal

pub loop-r-init : goal.loop-r-init
loop-r-init c =
    (starts, λ h. absurd (h (search rules)))

pub returns-in_err-operand-clause-read : goal.returns-in_err-operand-clause-read
unfolding G.arguments and_then look next
returns-in_err-operand-clause-read c =
    let t = c.take.ensures.moved in
    let a = c.in_err-operand.ensures.read in
    let v = c.loop-r.invariant.0 in
    rw (passed c.from_residual.ensures, v.rest, same c.kind.ensures.is c.loop-r-test.true, ← v.same, ← t.there, ← t.same, a.is)
    (stays a (omega arith))

pub returns-in_err-wanted-clause-read : goal.returns-in_err-wanted-clause-read
unfolding G.arguments and_then look next
returns-in_err-wanted-clause-read c =
    let t = c.take.ensures.moved in
    let a = c.in_ok-operand.ensures.read in
    let close = c.in_err-wanted.ensures.read in
    let v = c.loop-r.invariant.0 in
    rw (
      passed c.from_residual-in_err-wanted.ensures,
      v.rest,
      same c.kind.ensures.is c.loop-r-test.true,
      ← v.same,
      ← t.there,
      ← t.same,
      a.is,
      ← a.same,
      close.is,
    )
    (stays close (omega arith))

pub loop-r-preserved : goal.loop-r-preserved
unfolding G.arguments and_then look next tape_each
loop-r-preserved c =
    let t = c.take.ensures.moved in
    let a = c.in_ok-operand.ensures.read in
    let close = c.in_ok-wanted.ensures.read in
    let still = c.in_ok-wanted.ensures.still in
    let v = c.loop-r.invariant.0 in (
      turn (λ xs. a.what ∷ xs) v (omega arith) (omega arith) (close.same ∙ (a.same ∙ t.same))
          (still.name ∙ (c.in_ok-operand.ensures.same ∙ t.name))
          (λ f. rw (same c.kind.ensures.is c.loop-r-test.true, ← t.there, ← t.same, a.is, ← a.same, close.is, ← close.same) refl)
          (λ w after xs l k. l k ∙ rw (still.events, still.tape, ← t.events, ← t.tape) (a.laid _)),
      λ h. omega arith,
    )

pub returns-clause-read : goal.returns-clause-read
unfolding G.arguments and_then look next tape_each
returns-clause-read c =
    let v = c.loop-r.invariant.0 in
    let far = c.loop-r.invariant.1 (other c.kind.ensures.is c.loop-r-test.false) in
    rw (v.rest, ne_eqb _ _ (other c.kind.ensures.is c.loop-r-test.false), ← v.same)
    (wrote (v.fits _ _ _ (λ k. refl)) (omega arith) (omega arith), omega arith)
