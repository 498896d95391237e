-- `simple` goes by its first token. Assumes nothing.
use Rattle.std.proofs.Common.{arith, refl}
use borrow.Author.Tests.{ne_eqb}
use Rattle.base.proofs.Tests.{same, other}
use Rattle.grammar.specs.Grammar as G
use Rattle.grammar.specs.Reader.{and_then, look, next}
use Rattle.tape.specs.Tape.{tape_statement}
use Rattle.readers.proofs.Reading.{passed, stays, wrote}
use Rattle.std.proofs.Common.{get_or}
use Rattle.base.specs.Lists.{member}
use Rattle.grammar.specs.Reader.{refuse}
use Rattle.readers.proofs.Choices.{either}
use Rattle.phrases.proofs.simple.simple.Goals as goal

pub after_name-requires : goal.after_name-requires
after_name-requires c =
    let t = c.take-name.ensures.moved in
    (omega arith, (omega arith, rw (c.take-name.ensures.token, t.same) (same c.kind-k.ensures.is c.if-k-eq-NAME.true)))

pub returns-then-k-eq-NAME-clause-read : goal.returns-then-k-eq-NAME-clause-read
unfolding G.statement_of and_then look next
returns-then-k-eq-NAME-clause-read c =
    let t = c.take-name.ensures.moved in
    rw (same c.kind-k.ensures.is c.if-k-eq-NAME.true, ← t.there, ← t.same, ← t.events, ← t.tape, ← c.take-name.ensures.token) c.after_name.ensures.read

pub returns-then-k-eq-NULL-clause-read : goal.returns-then-k-eq-NULL-clause-read
unfolding G.statement_of and_then look next tape_statement
returns-then-k-eq-NULL-clause-read c =
    let t = c.take.ensures.moved in
    rw (same c.kind-k.ensures.is c.if-k-eq-NULL.true, ← t.there, ← t.same) (wrote (λ k. rw (t.events, t.tape) refl) (omega arith) (omega arith))

pub returns-then-k-ne-GOTO-clause-read : goal.returns-then-k-ne-GOTO-clause-read
unfolding G.statement_of and_then look next
returns-then-k-ne-GOTO-clause-read c =
    rw (
      ne_eqb _ 1 (other c.kind-k.ensures.is c.if-k-eq-NAME.false),
      ne_eqb _ 13 (other c.kind-k.ensures.is c.if-k-ne-GOTO.true),
      ne_eqb _ 14 (other c.kind-k.ensures.is c.if-k-eq-NULL.false),
      either (member (get_or c.args.r.now.kinds.now c.args.r.now.at 0) G.openers) (refuse 4),
    )
    (record { is = refl; same = refl; onward = omega arith })

pub returns-in_err-label-clause-read : goal.returns-in_err-label-clause-read
unfolding G.statement_of and_then look next
returns-in_err-label-clause-read c =
    let t = c.take-2.ensures.moved in
    let label = c.in_err-label.ensures.read in
    rw (passed c.from_residual.ensures, same c.kind-k.ensures.is c.if-k-ne-GOTO.false, ← t.there, ← t.same, label.is) (stays label (omega arith))

pub returns-clause-read : goal.returns-clause-read
unfolding G.statement_of and_then look next tape_statement
returns-clause-read c =
    let t = c.take-2.ensures.moved in
    let label = c.in_ok-label.ensures.read in
    let still = c.in_ok-label.ensures.still in
    let w = c.write.ensures in
    rw (same c.kind-k.ensures.is c.if-k-ne-GOTO.false, ← t.there, ← t.same, label.is, ← label.same, ← w.same, ← w.here)
    (wrote (λ k. rw (← t.events, ← still.events, ← t.tape, ← still.tape) (w.laid k)) (omega arith) (omega arith))
