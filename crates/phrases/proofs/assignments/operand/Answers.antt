-- `operand` reads and writes by the kind of its first token. Assumes nothing.
use Rattle.std.proofs.Common.{arith, refl}
use borrow.Author.Tests.{ne_eqb}
use Rattle.base.proofs.Tests.{same, other}
use Rattle.grammar.specs.Grammar as G
use Rattle.grammar.specs.Tree as T
use Rattle.grammar.specs.Reader.{and_then, look, next, want_one}
use Rattle.tape.specs.Tape.{tape_operand}
use Rattle.readers.proofs.Reading.{wrote, gives}
use Rattle.phrases.proofs.assignments.operand.Goals as goal

pub returns-then-k-eq-NUMBER-clause-read : goal.returns-then-k-eq-NUMBER-clause-read
unfolding G.operand and_then look next want_one tape_operand
returns-then-k-eq-NUMBER-clause-read c =
    let t = c.take-number.ensures.moved in
    let w = c.write.ensures in
    rw (same c.kind-k.ensures.is c.if-k-eq-NUMBER.true, ← t.there, ← w.here, ← t.same, ← w.same)
    (wrote (λ k. rw (← t.events, ← t.tape, ← c.take-number.ensures.token) (w.laid k)) (omega arith) (omega arith))

pub returns-then-k-eq-NAME-clause-read : goal.returns-then-k-eq-NAME-clause-read
unfolding G.operand and_then look next want_one tape_operand
returns-then-k-eq-NAME-clause-read c =
    let t = c.take-name.ensures.moved in
    rw (same c.kind-k.ensures.is c.if-k-eq-NAME.true, ← t.there, ← t.same, ← t.events, ← t.tape, ← c.take-name.ensures.token)
    (gives _ _ T.place _ _ _ _ _ _ _ _ _ _ (omega arith) (omega arith) (λ d l. l) c.place.ensures.read)

pub returns-clause-read : goal.returns-clause-read
unfolding G.operand and_then look next want_one tape_operand
returns-clause-read c =
    rw (ne_eqb _ _ (other c.kind-k.ensures.is c.if-k-eq-NUMBER.false), ne_eqb _ _ (other c.kind-k.ensures.is c.if-k-eq-NAME.false))
    (record { is = refl; same = refl; onward = omega arith })
