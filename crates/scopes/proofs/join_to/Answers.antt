-- `join_to` is the definition's, case by case: what stands is changed only where the other is answered. Assumes nothing.
use Rattle.std.proofs.Common.{◌≡◌, Bool, true, false, not, refl, sym, ◌∙◌}
use Rattle.scopes.specs.Broken.{◌⊕◌, before}
use Rattle.scopes.proofs.Order.{less}
use Rattle.scopes.proofs.join_to.Goals as goal

negated : (t u : Bool) → not t ≡ u → t ≡ not u
negated true u e = rw (← e)
negated false u e = rw (← e)

pub returns-in-None : goal.returns-in-None
unfolding ◌⊕◌
returns-in-None c =
    rw c.in-None.is refl

pub returns-in-None-least : goal.returns-in-None-least
unfolding ◌⊕◌
returns-in-None-least c =
    rw (c.in-Some.is, c.in-None-least.is) refl

pub returns-then-lt : goal.returns-then-lt
unfolding ◌⊕◌
returns-then-lt c =
    rw (c.in-Some.is, c.in-Some-least.is, negated (before c.in-Some-least.x c.in-Some.y) true (sym (less c.in-Some-least.x c.in-Some.y) ∙ (sym c.lt.ensures ∙ c.if-lt.true))) refl

pub returns-else-lt : goal.returns-else-lt
unfolding ◌⊕◌
returns-else-lt c =
    rw (c.in-Some.is, c.in-Some-least.is, negated (before c.in-Some-least.x c.in-Some.y) false (sym (less c.in-Some-least.x c.in-Some.y) ∙ (sym c.lt.ensures ∙ c.if-lt.false))) refl
