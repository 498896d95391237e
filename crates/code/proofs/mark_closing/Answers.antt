-- By the event. Assumes nothing.
use borrow.Author.Tests.{eq-eqb, ne_eqb}
use Rattle.code.specs.Places.{mark_closing}
use Rattle.code.proofs.mark_closing.Goals as goal

pub returns-then-family-eq-END_FOR : goal.returns-then-family-eq-END_FOR
unfolding mark_closing
returns-then-family-eq-END_FOR c =
    rw (eq-eqb _ _ c.if-family-eq-END_FOR.true, ← c.less.ensures) c.put_mark.ensures

pub returns-then-family : goal.returns-then-family
unfolding mark_closing
returns-then-family c =
    rw (ne_eqb _ _ c.if-family-eq-END_FOR.false, c.if-family.true) c.put_mark-then-family.ensures

pub returns-then-opens-family : goal.returns-then-opens-family
unfolding mark_closing
returns-then-opens-family c =
    rw (ne_eqb _ _ c.if-family-eq-END_FOR.false, c.if-family.false, c.if-opens-family.true)
    c.put_mark-then-opens-family.ensures

pub returns-else-opens-family : goal.returns-else-opens-family
unfolding mark_closing
returns-else-opens-family c =
    rw (ne_eqb _ _ c.if-family-eq-END_FOR.false, c.if-family.false, c.if-opens-family.false)
