-- The rules of the parts of an assignment: the family says which part, the form how its designator or operand is written.
use Rattle.tape.specs.Events as E
use Rattle.judge.specs.Along.{assignment_rule}
use borrow.Author.Tests.{eq-eqb, ne_eqb}
use Rattle.judge.proofs.assignment_rule.Goals as goal

pub returns-then-k-eq-TARGET : goal.returns-then-k-eq-TARGET
unfolding assignment_rule
returns-then-k-eq-TARGET c =
    λ f s.
    rw (← c.family-k.ensures, eq-eqb _ E.TARGET c.if-k-eq-TARGET.true, ← c.form-shape.ensures.0)
    (c.aim_rules.ensures f s.listed)

pub returns-then-k-eq-CONTROL : goal.returns-then-k-eq-CONTROL
unfolding assignment_rule
returns-then-k-eq-CONTROL c =
    λ f s.
    rw (
      ← c.family-k.ensures,
      ne_eqb _ E.TARGET c.if-k-eq-TARGET.false,
      eq-eqb _ E.CONTROL c.if-k-eq-CONTROL.true,
      ←
          c.form-shape.ensures.0,
    ) (c.control_rules.ensures f s.listed)

pub returns-then-k-eq-FIRST : goal.returns-then-k-eq-FIRST
unfolding assignment_rule
returns-then-k-eq-FIRST c =
    λ f s.
    rw (
      ← c.family-k.ensures,
      ne_eqb _ E.TARGET c.if-k-eq-TARGET.false,
      ne_eqb _ E.CONTROL
          c.if-k-eq-CONTROL.false,
      eq-eqb _ E.FIRST c.if-k-eq-FIRST.true,
      ← c.form-shape.ensures.0,
    )
    (c.first_rules.ensures f s.listed)

pub returns-then-k-eq-TERM : goal.returns-then-k-eq-TERM
unfolding assignment_rule
returns-then-k-eq-TERM c =
    λ f s.
    rw (
      ← c.family-k.ensures,
      ne_eqb _ E.TARGET c.if-k-eq-TARGET.false,
      ne_eqb _ E.CONTROL
          c.if-k-eq-CONTROL.false,
      ne_eqb _ E.FIRST c.if-k-eq-FIRST.false,
      eq-eqb _ E.TERM c.if-k-eq-TERM.true,
      ←
          c.form-shape.ensures.0,
    )
    (c.chain_rule.ensures f s)

pub returns-then-op : goal.returns-then-op
unfolding assignment_rule
returns-then-op c =
    λ f s.
    rw (
      ← c.family-k.ensures,
      ne_eqb _ E.TARGET
          c.if-k-eq-TARGET.false,
      ne_eqb _ E.CONTROL c.if-k-eq-CONTROL.false,
      ne_eqb _ E.FIRST
          c.if-k-eq-FIRST.false,
      ne_eqb _ E.TERM c.if-k-eq-TERM.false,
      c.if-op.true,
    ) c.sign_rule.ensures

pub returns : goal.returns
unfolding assignment_rule
returns c =
    λ f s.
    rw (
      ← c.family-k.ensures,
      ne_eqb _ E.TARGET
          c.if-k-eq-TARGET.false,
      ne_eqb _ E.CONTROL c.if-k-eq-CONTROL.false,
      ne_eqb _ E.FIRST
          c.if-k-eq-FIRST.false,
      ne_eqb _ E.TERM c.if-k-eq-TERM.false,
      c.if-op.false,
    )
