-- The rules of conditions, limits, calls, uses and the register of a CASE; all other phrases are parts of assignments.
use Rattle.tape.specs.Events as E
use Rattle.judge.specs.Along.{statement_rule}
use Rattle.tape.specs.Numbers.{form_at}
use borrow.Author.Tests.{eq-eqb, ne_eqb}
use Rattle.judge.proofs.statement_rule.Goals as goal

pub returns-then-k-eq-COMPARED : goal.returns-then-k-eq-COMPARED
unfolding statement_rule
returns-then-k-eq-COMPARED c =
    λ f s.
    rw (← c.family-k.ensures, eq-eqb _ E.COMPARED c.if-k-eq-COMPARED.true, ← c.form.ensures.0)
    (c.compared_rules.ensures f s.listed)

pub returns-then-k-eq-LIMIT : goal.returns-then-k-eq-LIMIT
unfolding statement_rule
returns-then-k-eq-LIMIT c =
    λ f s.
    rw (
      ← c.family-k.ensures,
      ne_eqb _ E.COMPARED c.if-k-eq-COMPARED.false,
      eq-eqb _ E.LIMIT
          c.if-k-eq-LIMIT.true,
      ← c.form-then-k-eq-LIMIT.ensures.0,
    ) (c.operand_rules.ensures f s.listed)

pub returns-then-op-eq-CALL : goal.returns-then-op-eq-CALL
unfolding statement_rule form_at
returns-then-op-eq-CALL c =
    λ f s. rw c.if-op-eq-CALL.true (c.call_rules.ensures f s.listed)

pub returns-then-k-eq-ARGUED : goal.returns-then-k-eq-ARGUED
unfolding statement_rule
returns-then-k-eq-ARGUED c =
    λ f s.
    rw (
      ← c.family-k.ensures,
      ne_eqb _ E.COMPARED c.if-k-eq-COMPARED.false,
      ne_eqb _ E.LIMIT c.if-k-eq-LIMIT.false,
      ne_eqb _ E.CALL c.if-op-eq-CALL.false,
      eq-eqb _ E.ARGUED c.if-k-eq-ARGUED.true,
      ← c.form-then-k-eq-ARGUED.ensures.0,
    )
    (c.argued_rules.ensures f s.listed)

pub returns-then-op-eq-COUNTED : goal.returns-then-op-eq-COUNTED
unfolding statement_rule form_at
returns-then-op-eq-COUNTED c =
    λ f s. rw c.if-op-eq-COUNTED.true (c.counted_rules.ensures f s.listed)

pub returns-then-op-eq-CHOSEN : goal.returns-then-op-eq-CHOSEN
unfolding statement_rule form_at
returns-then-op-eq-CHOSEN c =
    λ f s. rw c.if-op-eq-CHOSEN.true (c.taken_rules.ensures f s.listed)

pub returns : goal.returns
unfolding statement_rule
returns c =
    λ f s.
    rw (
      ← c.family-k.ensures,
      ne_eqb _ E.COMPARED c.if-k-eq-COMPARED.false,
      ne_eqb _ E.LIMIT c.if-k-eq-LIMIT.false,
      ne_eqb _ E.CALL c.if-op-eq-CALL.false,
      ne_eqb _ E.ARGUED c.if-k-eq-ARGUED.false,
      ne_eqb _ E.COUNTED c.if-op-eq-COUNTED.false,
      ne_eqb _ E.CHOSEN c.if-op-eq-CHOSEN.false,
    )
    (c.assignment_rule.ensures f s)
