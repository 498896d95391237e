-- A value is judged by the room that is left and the width of its cell.
use Rattle.static_rules.proofs.Elements.{short-is, from_zero}
use Rattle.judge.specs.Along.{value_rule}
use Rattle.scopes.specs.Broken.{rule}
use native.Mathlib.Omega.{arith}
use borrow.Author.Tests.{eq-eqb, ne_eqb}
use Rattle.judge.proofs.value_rule.Goals as goal

pub returns-then-c-eq0 : goal.returns-then-c-eq0
unfolding value_rule
returns-then-c-eq0 c =
    rw (eq-eqb _ 0 c.if-c-eq0.true) c.at.ensures

pub returns-then-c-eq-FULL : goal.returns-then-c-eq-FULL
unfolding value_rule rule
returns-then-c-eq-FULL c =
    rw (ne_eqb _ 0 c.if-c-eq0.false, c.if-c-eq-FULL.true)

pub returns-then-c-eq-SHORT : goal.returns-then-c-eq-SHORT
unfolding value_rule
returns-then-c-eq-SHORT c =
    rw (ne_eqb _ 0 c.if-c-eq0.false, c.if-c-eq-SHORT.true, short-is) c.rule.ensures

pub returns : goal.returns
unfolding value_rule
returns c =
    rw (
      ne_eqb _ 0 c.if-c-eq0.false,
      ne_eqb _ 0 c.if-c-eq-FULL.false,
      ne_eqb _ 1 c.if-c-eq-SHORT.false,
      from_zero 255 _ (omega arith),
    )
    c.rule-2.ensures
