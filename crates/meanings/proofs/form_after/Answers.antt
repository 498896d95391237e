-- What the cells that follow are: the family says whether an array, the form how wide.
use borrow.Author.Tests.{eq-eqb, ne_eqb}
use Rattle.tape.specs.Events as E
use Rattle.meanings.specs.Along.{form_after}
use Rattle.meanings.proofs.form_after.Goals as goal

pub returns-then-k-eq-SINGLE_FULL : goal.returns-then-k-eq-SINGLE_FULL
unfolding form_after
returns-then-k-eq-SINGLE_FULL c =
    rw (← c.family-k.ensures, eq-eqb _ E.SINGLE-FULL c.if-k-eq-SINGLE_FULL.true, ← c.form.ensures.0, ← c.width_by-width.ensures) c.packed_as.ensures

pub returns-then-k-eq-ARRAY_FULL : goal.returns-then-k-eq-ARRAY_FULL
unfolding form_after
returns-then-k-eq-ARRAY_FULL c =
    rw (
      ← c.family-k.ensures,
      ne_eqb _ E.SINGLE-FULL c.if-k-eq-SINGLE_FULL.false,
      eq-eqb _ E.ARRAY-FULL c.if-k-eq-ARRAY_FULL.true,
      ← c.form.ensures.0,
      ← c.width_by-width.ensures,
      ← c.value.ensures,
    ) c.packed_as-then-k-eq-ARRAY_FULL.ensures

pub returns : goal.returns
unfolding form_after
returns c =
    rw (← c.family-k.ensures, ne_eqb _ E.SINGLE-FULL c.if-k-eq-SINGLE_FULL.false, ne_eqb _ E.ARRAY-FULL c.if-k-eq-ARRAY_FULL.false)
