-- The sort in the packed number is that of the meaning.
use Rattle.scopes.specs.declared.Refusal.TheVariants.{Misfit}
use Rattle.scopes.specs.Broken.{rule}
use mathlib.Core.Bool.{Bool}
use Rattle.rules.proofs.Sorts as sorts
use mathlib.Core.Path.{ap, ◌∙◌}
use Rattle.rules.proofs.register_rule.Goals as goal

pub returns : goal.returns
returns c =
    λ n b. c.rule.ensures ∙ ap (λ (x : Bool). rule x Misfit c.args.t) (c.is_register.ensures ∙ sorts.register-sort n _ b)
