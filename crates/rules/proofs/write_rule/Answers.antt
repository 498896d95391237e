-- A register is judged by whether it is among the protected ones.
use Rattle.static_rules.specs.Rules.{write_rule}
use Rattle.scopes.specs.declared.Refusal.TheVariants.{Protected}
use Rattle.scopes.specs.Broken.{rule}
use mathlib.Core.Bool.{Bool, not}
use mathlib.Core.Path.{ap, ◌∙◌}
use Rattle.rules.proofs.write_rule.Goals as goal

pub returns : goal.returns
unfolding write_rule
returns c =
    c.rule.ensures ∙ ap (λ (x : Bool). rule (not x) Protected c.args.t) c.is_kept.ensures
