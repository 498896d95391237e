-- By the event. Assumes nothing.
use borrow.Author.Tests.{eq-eqb, ne_eqb}
use Rattle.emit.specs.Events.{codes_of}
use Rattle.emit.proofs.codes_of.Goals as goal

pub returns-then-family-eq-FIRST : goal.returns-then-family-eq-FIRST
unfolding codes_of
returns-then-family-eq-FIRST c =
    rw (eq-eqb _ _ c.if-family-eq-FIRST.true) c.first.ensures

pub returns-then-family-eq-TERM : goal.returns-then-family-eq-TERM
unfolding codes_of
returns-then-family-eq-TERM c =
    rw (
      ne_eqb _ _ c.if-family-eq-FIRST.false,
      eq-eqb _ _ c.if-family-eq-TERM.true,
      ← c.less.ensures,
      ← c.kind.ensures,
    )
    c.next.ensures

pub returns-then-family-eq-COMPARED : goal.returns-then-family-eq-COMPARED
unfolding codes_of
returns-then-family-eq-COMPARED c =
    rw (ne_eqb _ _ c.if-family-eq-FIRST.false, ne_eqb _ _ c.if-family-eq-TERM.false, eq-eqb _ _ c.if-family-eq-COMPARED.true) c.compared.ensures

pub returns-then-family-eq-LIMIT : goal.returns-then-family-eq-LIMIT
unfolding codes_of
returns-then-family-eq-LIMIT c =
    rw (
      ne_eqb _ _ c.if-family-eq-FIRST.false,
      ne_eqb _ _ c.if-family-eq-TERM.false,
      ne_eqb _ _ c.if-family-eq-COMPARED.false,
      eq-eqb _ _ c.if-family-eq-LIMIT.true,
    )
    c.limit.ensures

pub returns-then-family-eq-BARE : goal.returns-then-family-eq-BARE
unfolding codes_of
returns-then-family-eq-BARE c =
    rw (
      ne_eqb _ _ c.if-family-eq-FIRST.false,
      ne_eqb _ _ c.if-family-eq-TERM.false,
      ne_eqb _ _ c.if-family-eq-COMPARED.false,
      ne_eqb _ _ c.if-family-eq-LIMIT.false,
      eq-eqb _ _ c.if-family-eq-BARE.true,
    )
    c.bare.ensures

pub returns-then-family-eq-END_FOR : goal.returns-then-family-eq-END_FOR
unfolding codes_of
returns-then-family-eq-END_FOR c =
    rw (
      ne_eqb _ _ c.if-family-eq-FIRST.false,
      ne_eqb _ _ c.if-family-eq-TERM.false,
      ne_eqb _ _ c.if-family-eq-COMPARED.false,
      ne_eqb _ _ c.if-family-eq-LIMIT.false,
      ne_eqb _ _ c.if-family-eq-BARE.false,
      eq-eqb _ _ c.if-family-eq-END_FOR.true,
    )
    c.step.ensures

pub returns-then-family-eq-COUNTED : goal.returns-then-family-eq-COUNTED
unfolding codes_of
returns-then-family-eq-COUNTED c =
    rw (
      ne_eqb _ _ c.if-family-eq-FIRST.false,
      ne_eqb _ _ c.if-family-eq-TERM.false,
      ne_eqb _ _ c.if-family-eq-COMPARED.false,
      ne_eqb _ _ c.if-family-eq-LIMIT.false,
      ne_eqb _ _ c.if-family-eq-BARE.false,
      ne_eqb _ _ c.if-family-eq-END_FOR.false,
      eq-eqb _ _ c.if-family-eq-COUNTED.true,
      ← c.meaning.ensures,
    )
    (c.used.ensures _ c.meant.ensures)

pub returns-then-family-eq-CHOSEN : goal.returns-then-family-eq-CHOSEN
unfolding codes_of
returns-then-family-eq-CHOSEN c =
    rw (
      ne_eqb _ _ c.if-family-eq-FIRST.false,
      ne_eqb _ _ c.if-family-eq-TERM.false,
      ne_eqb _ _ c.if-family-eq-COMPARED.false,
      ne_eqb _ _ c.if-family-eq-LIMIT.false,
      ne_eqb _ _ c.if-family-eq-BARE.false,
      ne_eqb _ _ c.if-family-eq-END_FOR.false,
      ne_eqb _ _ c.if-family-eq-COUNTED.false,
      eq-eqb _ _ c.if-family-eq-CHOSEN.true,
    )
    c.chosen.ensures

pub returns : goal.returns
unfolding codes_of
returns c =
    rw (
      ne_eqb _ _ c.if-family-eq-FIRST.false,
      ne_eqb _ _ c.if-family-eq-TERM.false,
      ne_eqb _ _ c.if-family-eq-COMPARED.false,
      ne_eqb _ _ c.if-family-eq-LIMIT.false,
      ne_eqb _ _ c.if-family-eq-BARE.false,
      ne_eqb _ _ c.if-family-eq-END_FOR.false,
      ne_eqb _ _ c.if-family-eq-COUNTED.false,
      ne_eqb _ _ c.if-family-eq-CHOSEN.false,
    )
    c.others.ensures
