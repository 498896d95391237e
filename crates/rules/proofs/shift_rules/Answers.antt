-- The rules of a shift's operand, by its shape: a number is compared as it is, since what is at most 63 is not negative.
use Rattle.static_rules.specs.Rules.{shift_rules}
use Rattle.static_rules.proofs.Elements.{from_zero}
use Rattle.scopes.specs.Broken.{Ruling, ◌⊕◌}
use Rattle.rules.proofs.Answers as answers
use mathlib.Core.Path.{ap₂, ◌∙◌}
use native.Mathlib.Omega.{arith}
use Rattle.rules.proofs.shift_rules.Goals as goal

pub returns-then-shape-eq-NUMBER : goal.returns-then-shape-eq-NUMBER
unfolding shift_rules
returns-then-shape-eq-NUMBER c =
    λ f s.
    rw (
      answers.a-number _ c.args.t c.if-shape-eq-NUMBER.true,
      s.values-is,
      ← c.value.ensures,
      from_zero 63 _ (omega arith),
    )
    c.rule.ensures

pub returns : goal.returns
unfolding shift_rules
returns c =
    λ f s.
    let t = c.args.t in
    let other = c.if-shape-eq-NUMBER.false in
    rw (answers.a-place _ t other)
    (c.join.ensures
    ∙ ap₂ (λ (x y : Ruling). x ⊕ y) (rw (answers.a-place _ t other) at (c.only_register-only.ensures f s))
    (answers.no_zero s _ _ c.meaning.ensures c.zero_rule.ensures))
