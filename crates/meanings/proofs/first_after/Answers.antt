-- Behind the name of a function that writes it, the first argument is written; behind every other event none.
use borrow.Author.Tests.{eq-eqb, ne_eqb}
use Rattle.tape.specs.Events as E
use Rattle.meanings.proofs.Changes as changes
use Rattle.meanings.specs.Along.{first_after}
use Rattle.ledger.specs.Book.{wide_of, thin_of}
use Rattle.meanings.proofs.first_after.Goals as goal

pub returns-then-op-eq-APPLIED : goal.returns-then-op-eq-APPLIED
unfolding first_after
returns-then-op-eq-APPLIED c =
    λ under. let args = c.args in rw (eq-eqb _ E.APPLIED c.if-op-eq-APPLIED.true)
    (changes.first-at (thin_of args.thin.now).found (wide_of args.wide.now).means under args.t _ _ _ c.meaning.ensures c.meant.ensures c.writes_first.ensures)

pub returns : goal.returns
unfolding first_after
returns c =
    λ under. rw (ne_eqb _ E.APPLIED c.if-op-eq-APPLIED.false)
