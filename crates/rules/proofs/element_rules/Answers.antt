-- A cell's designator has a subscript or index only on an array, the subscript inside it, the index a register.
use Rattle.scopes.specs.declared.Refusal.TheVariants.{Misfit}
use Rattle.scopes.specs.Broken.{Ruling, ◌⊕◌, rule}
use mathlib.Core.Bool.{Bool, ◌||◌}
use mathlib.Core.Path.{ap₂, ◌∙◌}
use Rattle.rules.proofs.element_rules.Goals as goal

pub returns : goal.returns
returns c =
    λ f s n b.
    c.join-2.ensures ∙ ap₂ (λ (x y : Ruling). x ⊕ y) (c.rule-fits.ensures ∙ ap₂
    (λ (y z : Bool). rule (y || z) Misfit c.args.t)
    c.is_array.ensures
    (c.is_bare.ensures c.args.t))
    (c.join.ensures ∙ ap₂ (λ (x y : Ruling). x ⊕ y) (c.subscript_rules-inside.ensures f s.values-is n b)
    (c.index_rules.ensures f s))
