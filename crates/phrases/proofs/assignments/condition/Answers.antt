-- `condition` reads and writes by the kind of its first token. Assumes nothing.
use Rattle.std.proofs.Common.{arith, refl}
use borrow.Author.Tests.{ne_eqb}
use Rattle.base.proofs.Tests.{same, other}
use Rattle.grammar.specs.Grammar as G
use Rattle.grammar.specs.Tree as T
use Rattle.grammar.specs.Reader.{and_then, look}
use Rattle.tape.specs.Tape.{tape_condition}
use Rattle.readers.proofs.Reading.{wrote, gives}
use Rattle.std.proofs.Common.{◌∷◌}
use Rattle.token.specs.Kinds as K
use Rattle.readers.proofs.Choices.{one-yes, one-no, is-token}
use Rattle.phrases.proofs.assignments.condition.Goals as goal

pub take-requires-then-is_relation : goal.take-requires-then-is_relation
take-requires-then-is_relation c =
    is-token G.relations c.kind.ensures c.is_relation.ensures c.if-is_relation.true refl

pub returns-then-is_relation-clause-read : goal.returns-then-is_relation-clause-read
unfolding G.condition and_then look tape_condition
returns-then-is_relation-clause-read c =
    let t = c.take.ensures.moved in
    let u = c.take-then-is_relation.ensures.moved in
    rw (
      one-yes (K.NAME ∷ K.OVERFLOW ∷ G.relations) c.kind-k.ensures (rw c.if-k-eq-NAME.true) refl,
      same c.kind-k.ensures.is c.if-k-eq-NAME.true,
      ← t.there,
      ← t.same,
      one-yes G.relations c.kind.ensures c.is_relation.ensures c.if-is_relation.true,
      ← u.there,
      ← u.same,
      ← t.events,
      ← u.events,
      ← t.tape,
      ← u.tape,
    )
    (gives _ _ (T.compared _ _) _ _ _ _ _ _ _ _ _ _ (omega arith) (omega arith) (λ a l. l) c.operand.ensures.read)

pub returns-then-k-eq-NAME-clause-read : goal.returns-then-k-eq-NAME-clause-read
unfolding G.condition and_then look tape_condition
returns-then-k-eq-NAME-clause-read c =
    let t = c.take.ensures.moved in
    rw (
      one-yes (K.NAME ∷ K.OVERFLOW ∷ G.relations) c.kind-k.ensures (rw c.if-k-eq-NAME.true) refl,
      same c.kind-k.ensures.is c.if-k-eq-NAME.true,
      ← t.there,
      ← t.same,
      one-no G.relations c.kind.ensures c.is_relation.ensures c.if-is_relation.false,
    )
    (record { is = refl; same = refl; onward = omega arith })

pub take-bare-requires : goal.take-bare-requires
take-bare-requires c =
    is-token (K.NAME ∷ K.OVERFLOW ∷ G.relations) c.kind-k.ensures c.begins_condition.ensures c.if-begins_condition.true refl

pub returns-then-begins_condition-clause-read : goal.returns-then-begins_condition-clause-read
unfolding G.condition and_then look tape_condition
returns-then-begins_condition-clause-read c =
    let t = c.take-bare.ensures.moved in
    let w = c.write.ensures in
    rw (
      one-yes (K.NAME ∷ K.OVERFLOW ∷ G.relations) c.kind-k.ensures c.begins_condition.ensures c.if-begins_condition.true,
      ne_eqb _ _ (other c.kind-k.ensures.is c.if-k-eq-NAME.false),
      ← t.there,
      ← w.here,
      ← t.same,
      ← w.same,
    )
    (wrote (λ k. rw (← t.events, ← t.tape, ← c.take-bare.ensures.token) (w.laid k)) (omega arith) (omega arith))

pub returns-clause-read : goal.returns-clause-read
unfolding G.condition and_then look tape_condition
returns-clause-read c =
    rw (one-no (K.NAME ∷ K.OVERFLOW ∷ G.relations) c.kind-k.ensures c.begins_condition.ensures c.if-begins_condition.false)
    (record { is = refl; same = refl; onward = omega arith })
