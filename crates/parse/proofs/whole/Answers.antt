-- `whole` reads a block and `@`. Assumes nothing.
use Rattle.std.proofs.Common.{arith, refl}
use borrow.Author.Tests.{eq-eqb, ne_eqb}
use Rattle.base.proofs.Tests.{same, other}
use Rattle.grammar.specs.Grammar as G
use Rattle.grammar.specs.Reader.{and_then, look}
use Rattle.readers.proofs.Reading.{passed, stays, wrote}
use Rattle.parse.proofs.whole.Goals as goal

pub returns-then-kind-ne-BEGIN-clause-read : goal.returns-then-kind-ne-BEGIN-clause-read
unfolding G.program and_then look
returns-then-kind-ne-BEGIN-clause-read c =
    rw (ne_eqb _ _ (other c.kind.ensures.is c.if-kind-ne-BEGIN.true)) record { is = refl; same = refl; onward = omega arith }

pub returns-in_err-statement-clause-read : goal.returns-in_err-statement-clause-read
unfolding G.program and_then look
returns-in_err-statement-clause-read c =
    let b = c.in_err-statement.ensures.read in
    rw (passed c.from_residual.ensures, eq-eqb _ _ (same c.kind.ensures.is c.if-kind-ne-BEGIN.false), b.is) (stays b (omega arith))

pub returns-in_err-wanted-clause-read : goal.returns-in_err-wanted-clause-read
unfolding G.program and_then look
returns-in_err-wanted-clause-read c =
    let b = c.in_ok-statement.ensures.read in
    let last = c.in_err-wanted.ensures.read in
    rw (passed c.from_residual-in_err-wanted.ensures, eq-eqb _ _ (same c.kind.ensures.is c.if-kind-ne-BEGIN.false), b.is, ← b.same, last.is)
    (stays last (omega arith))

pub returns-clause-read : goal.returns-clause-read
unfolding G.program and_then look
returns-clause-read c =
    let b = c.in_ok-statement.ensures.read in
    let last = c.in_ok-wanted.ensures.read in
    let still = c.in_ok-wanted.ensures.still in
    rw (eq-eqb _ _ (same c.kind.ensures.is c.if-kind-ne-BEGIN.false), b.is, ← b.same, last.is, ← last.same)
    (wrote (λ k. rw (still.events, still.tape) (b.laid k)) (omega arith) (omega arith))
