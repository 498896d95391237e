-- An argument is judged by what is taken in its place.
use Rattle.static_rules.specs.Rules.{argument_rules}
use Rattle.scopes.specs.Broken.{Ruling, ◌⊕◌}
use mathlib.Core.Path.{refl, ap₂, ◌∙◌}
use Rattle.rules.proofs.argument_rules.Goals as goal

pub returns-in-WrittenRegister : goal.returns-in-WrittenRegister
unfolding argument_rules
returns-in-WrittenRegister c =
    λ f s. rw c.in-WrittenRegister.is (c.join.ensures ∙ ap₂ (λ (x y : Ruling). x ⊕ y) (c.only_register-only.ensures f s) (c.written_rules.ensures f s))

pub returns-in-ReadRegister : goal.returns-in-ReadRegister
unfolding argument_rules
returns-in-ReadRegister c =
    λ f s. rw c.in-ReadRegister.is (c.only_register.ensures f s)

pub returns-in-ByteNumber : goal.returns-in-ByteNumber
unfolding argument_rules
returns-in-ByteNumber c =
    λ f s. rw c.in-ByteNumber.is (c.byte_rules.ensures f s.values-is)

pub returns-in-IndexedCell : goal.returns-in-IndexedCell
unfolding argument_rules
returns-in-IndexedCell c =
    λ f s. rw c.in-IndexedCell.is (c.cell_rules.ensures f s)

pub returns-in-PlainCell : goal.returns-in-PlainCell
unfolding argument_rules
returns-in-PlainCell c =
    λ f s. rw c.in-PlainCell.is (c.plain_rules.ensures f s)

pub returns-in-Surplus : goal.returns-in-Surplus
unfolding argument_rules
returns-in-Surplus c =
    λ f s. rw c.in-Surplus.is refl
