-- `sign` reads and writes by the kinds of its tokens. Assumes nothing.
use Rattle.std.proofs.Common.{arith, refl}
use borrow.Author.Tests.{ne_eqb}
use Rattle.base.proofs.Tests.{same, other}
use Rattle.grammar.specs.Grammar as G
use Rattle.grammar.specs.Reader.{and_then, look, next}
use Rattle.tape.specs.Tape.{tape_sign}
use Rattle.readers.proofs.Reading.{wrote}
use Rattle.phrases.proofs.assignments.sign.Goals as goal

pub returns-then-k-eq-ABS-clause-read : goal.returns-then-k-eq-ABS-clause-read
unfolding G.sign_of and_then look next tape_sign
returns-then-k-eq-ABS-clause-read c =
    let t = c.take-abs.ensures.moved in
    let w = c.write.ensures in
    rw (same c.kind-k.ensures.is c.if-k-eq-ABS.true, ← t.there, ← w.here, ← t.same, ← w.same)
    (wrote (λ k. rw (← t.events, ← t.tape, ← c.take-abs.ensures.token) (w.laid k)) (omega arith) (omega arith))

pub returns-then-k-ne-NEG-clause-read : goal.returns-then-k-ne-NEG-clause-read
unfolding G.sign_of and_then look next tape_sign
returns-then-k-ne-NEG-clause-read c =
    rw (ne_eqb _ _ (other c.kind-k.ensures.is c.if-k-eq-ABS.false), ne_eqb _ _ (other c.kind-k.ensures.is c.if-k-ne-NEG.true))
    (wrote (λ k. refl) (omega arith) (omega arith))

pub returns-then-kind-eq-ABS-clause-read : goal.returns-then-kind-eq-ABS-clause-read
unfolding G.sign_of and_then look next tape_sign
returns-then-kind-eq-ABS-clause-read c =
    let t = c.take-neg.ensures.moved in
    let u = c.take.ensures.moved in
    let w = c.write-then-kind-eq-ABS.ensures in
    rw (
      same c.kind-k.ensures.is c.if-k-ne-NEG.false,
      ← t.there,
      ← t.same,
      same c.kind.ensures.is c.if-kind-eq-ABS.true,
      ← u.there,
      ← w.here,
      ← u.same,
      ← w.same,
    )
    (wrote (λ k. rw (← t.events, ← u.events, ← t.tape, ← u.tape, ← c.take-neg.ensures.token) (w.laid k)) (omega arith) (omega arith))

pub returns-clause-read : goal.returns-clause-read
unfolding G.sign_of and_then look next tape_sign
returns-clause-read c =
    let t = c.take-neg.ensures.moved in
    let w = c.write-2.ensures in
    rw (
      same c.kind-k.ensures.is c.if-k-ne-NEG.false,
      ← t.there,
      ← t.same,
      ne_eqb _ _ (other c.kind.ensures.is c.if-kind-eq-ABS.false),
      ← w.here,
      ← w.same,
    )
    (wrote (λ k. rw (← t.events, ← t.tape, ← c.take-neg.ensures.token) (w.laid k)) (omega arith) (omega arith))
