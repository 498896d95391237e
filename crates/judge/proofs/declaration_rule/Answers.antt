-- The rules of the parts of declarations, each by its own test.
use Rattle.tape.specs.Events as E
use Rattle.judge.specs.Along.{declaration_rule}
use Rattle.tape.specs.Numbers.{form_at}
use borrow.Author.Tests.{eq-eqb, ne_eqb}
use Rattle.judge.proofs.declaration_rule.Goals as goal

pub returns-then-op-eq-REGISTER : goal.returns-then-op-eq-REGISTER
unfolding declaration_rule
returns-then-op-eq-REGISTER c =
    λ f s. rw (c.if-op-eq-REGISTER.true, s.values-is, ← c.value.ensures) c.rule.ensures

pub returns-then-k-eq-ARRAY_FULL : goal.returns-then-k-eq-ARRAY_FULL
unfolding declaration_rule
returns-then-k-eq-ARRAY_FULL c =
    λ f s.
    rw (
      ne_eqb _ E.REGISTER c.if-op-eq-REGISTER.false,
      ← c.family-k.ensures,
      eq-eqb _ E.ARRAY-FULL
          c.if-k-eq-ARRAY_FULL.true,
      s.values-is,
      ← c.value-v.ensures,
    ) c.rule-then-k-eq-ARRAY_FULL.ensures

pub returns-then-op-eq-VALUE : goal.returns-then-op-eq-VALUE
unfolding declaration_rule form_at
returns-then-op-eq-VALUE c =
    λ f s. rw (c.if-op-eq-VALUE.true, s.values-is, ← c.value-then-op-eq-VALUE.ensures) c.value_rule.ensures

pub returns-then-op-eq-BASE : goal.returns-then-op-eq-BASE
unfolding declaration_rule form_at
returns-then-op-eq-BASE c =
    λ f s. rw c.if-op-eq-BASE.true (c.base_rules.ensures f s)

pub returns-then-op-eq-PROCEDURE : goal.returns-then-op-eq-PROCEDURE
unfolding declaration_rule form_at
returns-then-op-eq-PROCEDURE c =
    λ f s. rw c.if-op-eq-PROCEDURE.true (c.used_register.ensures f s)

pub returns : goal.returns
unfolding declaration_rule
returns c =
    λ f s.
    rw (
      ne_eqb _ E.REGISTER c.if-op-eq-REGISTER.false,
      ← c.family-k.ensures,
      ne_eqb _ E.ARRAY-FULL c.if-k-eq-ARRAY_FULL.false,
      ne_eqb _ E.VALUE c.if-op-eq-VALUE.false,
      ne_eqb _ E.BASE c.if-op-eq-BASE.false,
      ne_eqb _ E.PROCEDURE c.if-op-eq-PROCEDURE.false,
    )
