-- What the cells that follow are, and for how many values the last has room: the family says whether an array, the form how wide.
use Rattle.tape.specs.Events as E
use Rattle.judge.specs.Along.{cells_after}
use Rattle.tape.specs.Numbers.{form_at}
use borrow.Author.Tests.{eq-eqb, ne_eqb}
use Rattle.judge.proofs.cells_after.Goals as goal

pub returns-then-k-eq-SINGLE_FULL : goal.returns-then-k-eq-SINGLE_FULL
unfolding cells_after
returns-then-k-eq-SINGLE_FULL c =
    λ f v. rw (← c.family-k.ensures, eq-eqb _ E.SINGLE-FULL c.if-k-eq-SINGLE_FULL.true, ← c.form-width.ensures.0)

pub returns-then-k-eq-ARRAY_FULL : goal.returns-then-k-eq-ARRAY_FULL
unfolding cells_after
returns-then-k-eq-ARRAY_FULL c =
    λ f v.
    rw (
      ← c.family-k.ensures,
      ne_eqb _ E.SINGLE-FULL c.if-k-eq-SINGLE_FULL.false,
      eq-eqb _ E.ARRAY-FULL c.if-k-eq-ARRAY_FULL.true,
      ←
          c.form-width.ensures.0,
      v,
      ← c.value.ensures,
    )

pub returns-then-op-eq-ITEM : goal.returns-then-op-eq-ITEM
unfolding cells_after form_at
returns-then-op-eq-ITEM c =
    λ f v. rw c.if-op-eq-ITEM.true

pub returns-then-op-eq-VALUE : goal.returns-then-op-eq-VALUE
unfolding cells_after form_at
returns-then-op-eq-VALUE c =
    λ f v. rw (c.if-op-eq-VALUE.true, c.saturating_sub.ensures)

pub returns : goal.returns
unfolding cells_after
returns c =
    λ f v.
    rw (
      ← c.family-k.ensures,
      ne_eqb _ E.SINGLE-FULL c.if-k-eq-SINGLE_FULL.false,
      ne_eqb _ E.ARRAY-FULL
          c.if-k-eq-ARRAY_FULL.false,
      ne_eqb _ E.ITEM c.if-op-eq-ITEM.false,
      ne_eqb _ E.VALUE c.if-op-eq-VALUE.false,
    )
