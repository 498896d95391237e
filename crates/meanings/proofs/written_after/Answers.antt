-- A target is written, a product the register below it, and by a call all that the called text writes.
use borrow.Author.Tests.{eq-eqb, ne_eqb}
use Rattle.tape.specs.Events as E
use Rattle.tape.specs.Numbers.{form_at}
use Rattle.meanings.specs.Along.{written_after}
use Rattle.ledger.specs.Book.{wide_of}
use Rattle.meanings.proofs.written_after.Goals as goal

pub returns-then-k-op : goal.returns-then-k-op
unfolding written_after
returns-then-k-op c =
    λ n. rw (
      ← c.family-k.ensures,
      c.if-k-op.true,
    ) (c.write_target.ensures
    (wide_of c.args.wide.now) n)

pub returns-then-k-eq-TERM : goal.returns-then-k-eq-TERM
unfolding written_after
returns-then-k-eq-TERM c =
    λ n. rw (
      ← c.family-k.ensures,
      c.if-k-op.false,
      eq-eqb _ E.TERM c.if-k-eq-TERM.true,
    ) (c.write_product.ensures n)

pub returns-then-op-eq-CALL : goal.returns-then-op-eq-CALL
unfolding written_after form_at
returns-then-op-eq-CALL c =
    λ n. rw c.if-op-eq-CALL.true (c.write_call.ensures n)

pub returns-else-op-eq-CALL : goal.returns-else-op-eq-CALL
unfolding written_after
returns-else-op-eq-CALL c =
    λ n. rw (← c.family-k.ensures, c.if-k-op.false, ne_eqb _ E.TERM c.if-k-eq-TERM.false, ne_eqb _ E.CALL c.if-op-eq-CALL.false)
