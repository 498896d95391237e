-- `label_at` does what the event asks: one law for each return. Assumes nothing.
use Rattle.tape.specs.Events as E
use Rattle.names.specs.Labelling.{label_at}
use Rattle.names.specs.Chains.{mark_in, marking}
use Rattle.scopes.specs.Labels.{Labelled}
use Rattle.ledger.specs.Book.{thin_of}
use mathlib.Core.Path.{ap}
use borrow.Author.Tests.{eq-eqb, ne_eqb}
use Rattle.names.proofs.labels.label_at.Goals as goal

pub returns-then-op-eq-LABEL : goal.returns-then-op-eq-LABEL
unfolding label_at
returns-then-op-eq-LABEL c =
    rw (eq-eqb _ E.LABEL c.if-op-eq-LABEL.true)
    (ap (λ (x : Labelled). marking (λ _ _ _. x) (mark_in (thin_of c.args.thin.now)
    c.args.n.now)) (c.set_label.ensures _))

pub returns-then-op-eq-GOTO : goal.returns-then-op-eq-GOTO
unfolding label_at
returns-then-op-eq-GOTO c =
    rw (ne_eqb _ E.LABEL c.if-op-eq-LABEL.false, eq-eqb _ E.GOTO c.if-op-eq-GOTO.true) c.bind.ensures

pub returns-else-op-eq-GOTO : goal.returns-else-op-eq-GOTO
unfolding label_at
returns-else-op-eq-GOTO c =
    rw (ne_eqb _ E.LABEL c.if-op-eq-LABEL.false, ne_eqb _ E.GOTO c.if-op-eq-GOTO.false)
