-- Both rules by the one meaning that is read.
use Rattle.scopes.specs.Broken.{Ruling, ◌⊕◌}
use Rattle.rules.proofs.Answers as answers
use mathlib.Core.Path.{ap₂, ◌∙◌}
use Rattle.rules.proofs.used_register.Goals as goal

pub returns : goal.returns
returns c =
    λ f s.
    c.join.ensures ∙ ap₂ (λ (x y : Ruling). x ⊕ y) (answers.a-register s _ _ c.meaning-m.ensures
    c.register_rule.ensures) (answers.no_zero s _ _ c.meaning-m.ensures c.zero_rule.ensures)
