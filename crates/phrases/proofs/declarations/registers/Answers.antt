-- `registers` goes along a list with commas. Assumes nothing.
use Rattle.std.proofs.Common.{arith, refl, ◌∙◌}
use borrow.Author.Tests.{eq-eqb, ne_eqb}
use Rattle.base.proofs.Tests.{same, other}
use Rattle.grammar.specs.Grammar as G
use Rattle.grammar.specs.Reader.{and_then, look, next}
use Rattle.tape.specs.Tape.{tape_each}
use Rattle.readers.proofs.Reading.{passed, stays, wrote}
use Rattle.std.proofs.Common.{◌∷◌}
use Rattle.readers.proofs.Loops.{starts, turn}
use Rattle.phrases.proofs.declarations.registers.Goals as goal

pub loop-r-init : goal.loop-r-init
loop-r-init c =
    starts

pub returns-in_err-register_item-clause-read : goal.returns-in_err-register_item-clause-read
unfolding G.list_of and_then look next
returns-in_err-register_item-clause-read c =
    let item = c.in_err-register_item.ensures.read in
    let v = c.loop-r.invariant in rw (passed c.from_residual.ensures, v.rest, ← v.same, item.is) (stays item (omega arith))

pub returns-then-kind-ne-COMMA-clause-read : goal.returns-then-kind-ne-COMMA-clause-read
unfolding G.list_of and_then look next tape_each
returns-then-kind-ne-COMMA-clause-read c =
    let item = c.in_ok-register_item.ensures.read in
    let v = c.loop-r.invariant in
    rw (v.rest, ← v.same, item.is, ← item.same, ne_eqb _ _ (other c.kind.ensures.is c.if-kind-ne-COMMA.true))
    (wrote (v.fits _ _ _ (λ k. item.laid k)) (omega arith) (omega arith))

pub loop-r-preserved : goal.loop-r-preserved
unfolding G.list_of and_then look next tape_each
loop-r-preserved c =
    let item = c.in_ok-register_item.ensures.read in
    let t = c.take.ensures.moved in
    turn (λ more. item.what ∷ more) c.loop-r.invariant (omega arith) (omega arith) (t.same ∙ item.same)
    (t.name ∙ c.in_ok-register_item.ensures.same)
    (λ f. rw (item.is, ← item.same, eq-eqb _ _ (same c.kind.ensures.is c.if-kind-ne-COMMA.false), ← t.same, ← t.there) refl)
    (λ v after ts l k. l k ∙ rw (t.events, t.tape) (item.laid _))
