-- Register 0 is told by the packed number.
use Rattle.scopes.specs.declared.Refusal.TheVariants.{WrongRegister}
use Rattle.scopes.specs.Broken.{rule}
use Prim.Native.Nat.{ℕ}
use lib.Dec.{eqb}
use mathlib.Core.Bool.{Bool, not, ◌&&◌}
use Rattle.rules.proofs.Sorts as sorts
use mathlib.Core.Path.{ap, ap₂, ◌∙◌}
use Rattle.rules.proofs.zero_rule.Goals as goal

pub returns : goal.returns
returns c =
    λ n b.
    c.rule.ensures ∙ ap (λ (x : Bool). rule (not x) WrongRegister c.args.t)
    (ap₂ (λ (r : Bool) (k : ℕ). r && eqb k 0) c.is_register.ensures c.number.ensures.0 ∙ sorts.zero-sort n _ b)
