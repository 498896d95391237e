-- `link` is the definition's, test by test. Assumes nothing.
use Rattle.tape.specs.Events as E
use Rattle.names.specs.Linking.{links_after}
use Rattle.ledger.proofs.Bounds.{label-noted}
use mathlib.Core.Path.{◌∙◌}
use borrow.Author.Tests.{eq-eqb, ne_eqb}
use Rattle.names.proofs.labels.link.Goals as goal

pub returns-then-op-eq-BLOCK : goal.returns-then-op-eq-BLOCK
unfolding links_after
returns-then-op-eq-BLOCK c =
    rw (eq-eqb _ E.BLOCK c.if-op-eq-BLOCK.true) c.put_opens.ensures

pub put_opens-requires-then-op-eq-LABEL-2 : goal.put_opens-requires-then-op-eq-LABEL-2
put_opens-requires-then-op-eq-LABEL-2 c =
    c.requires
    (label-noted c.args.op
    c.if-op-eq-LABEL.true)

pub returns-then-op-eq-LABEL : goal.returns-then-op-eq-LABEL
unfolding links_after
returns-then-op-eq-LABEL c =
    rw (
      ne_eqb _ E.BLOCK c.if-op-eq-BLOCK.false,
      eq-eqb _ E.LABEL c.if-op-eq-LABEL.true,
    ) (c.put_opens-then-op-eq-LABEL-2.ensures
    ∙ rw (
      c.put_opens-then-op-eq-LABEL.ensures,
      c.opens-newest.ensures.0,
    ))

pub returns-else-op-eq-LABEL : goal.returns-else-op-eq-LABEL
unfolding links_after
returns-else-op-eq-LABEL c =
    rw (ne_eqb _ E.BLOCK c.if-op-eq-BLOCK.false, ne_eqb _ E.LABEL c.if-op-eq-LABEL.false)
