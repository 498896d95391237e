-- `join` is the definition's, case by case: the derived order is that of places, then of numbers. Assumes nothing.
use Rattle.std.proofs.Common.{◌≡◌, Bool, true, false, not, refl, Some, cond}
use Rattle.scopes.specs.declared.Broken.{Broken}
use Rattle.scopes.specs.Broken.{Ruling, ◌⊕◌, before}
use Rattle.base.specs.Choose.{choose}
use Rattle.scopes.proofs.Order.{later}
use Rattle.scopes.proofs.join.Goals as goal

pub returns-in-None : goal.returns-in-None
unfolding ◌⊕◌
returns-in-None c =
    rw c.in-None.is refl

pub returns-in-None-a : goal.returns-in-None-a
unfolding ◌⊕◌
returns-in-None-a c =
    rw (c.in-Some.is, c.in-None-a.is) refl

pub returns-in-Some-a : goal.returns-in-Some-a
unfolding ◌⊕◌
returns-in-Some-a c =
    rw (c.in-Some.is, c.in-Some-a.is, c.min.ensures, later c.in-Some-a.x c.in-Some.y) (picked _ _ (before c.in-Some-a.x c.in-Some.y))
  where
    picked : (a b : Broken) (t : Bool) → ◌≡◌ {A = Ruling} (Some (cond (not t) b a)) (choose t (Some a) (Some b))
    picked a b true = refl
    picked a b false = refl
