-- The register of a condition, then its operand.
use Rattle.rules.proofs.Answers as rules
use Rattle.scopes.specs.Broken.{Ruling, ◌⊕◌}
use mathlib.Core.Path.{ap₂, ◌∙◌}
use Rattle.judge.proofs.compared_rules.Goals as goal

pub returns : goal.returns
returns c =
    λ f s.
    rw (← c.saturating_sub-n.ensures) (c.join.ensures ∙ ap₂ (λ (x y : Ruling). x ⊕ y)
    (rules.a-register s _ _ c.meaning.ensures c.register_rule-compared.ensures)
    (c.operand_rules.ensures f s))
