-- A product is judged where its operand is long.
use mathlib.Core.Path.{refl}
use Rattle.rules.proofs.Answers as answers
use Rattle.rules.proofs.product_rules.Goals as goal

pub returns-then-shape-is_long : goal.returns-then-shape-is_long
returns-then-shape-is_long c =
    λ f s.
    answers.a-product s _ _ c.meaning.ensures _ _ _
    c.is_long.ensures c.if-shape-is_long.true
    c.saturating_sub-operator.ensures c.saturating_sub.ensures c.rule-odd.ensures
    c.write_rule.ensures c.join.ensures

pub returns : goal.returns
returns c =
    λ f s.
    answers.no-product s _ _ c.meaning.ensures _ _ _ c.is_long.ensures c.if-shape-is_long.false
    refl
