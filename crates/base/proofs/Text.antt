-- Two texts compared whole: the test `same_bytes` says true of equal lists, and of no others. Assumes nothing.
use Prim.Native.Nat.{ℕ}
use mathlib.Core.Path.{◌≡◌, refl, sym, ap, ap₂, ◌∙◌}
use mathlib.Core.Bool.{Bool, true, false}
use mathlib.Core.List.{List, [], ◌∷◌}
use lib.Dec.{eqb}
use borrow.Author.Tests.{eq-eqb, eqb-true}
use Rattle.base.specs.Text.{same_bytes}
use Rattle.base.proofs.Tests.{never_true}

pub same-is : (a b : List ℕ) → same_bytes a b ≡ true → a ≡ b
unfolding same_bytes
same-is [] [] e = refl
same-is [] (y ∷ ys) e = never_true e
same-is (x ∷ xs) [] e = never_true e
same-is (x ∷ xs) (y ∷ ys) e = go (eqb x y) refl (same-is xs ys)
  where
    go : (t : Bool) → eqb x y ≡ t → (same_bytes xs ys ≡ true → xs ≡ ys) → x ∷ xs ≡ y ∷ ys
    go true q f = ap₂ (λ (a : ℕ) (l : List ℕ). a ∷ l) (eqb-true x y q) (f (rw q at e))
    go false q f = never_true (rw q at e)

pub same_self : (a : List ℕ) → same_bytes a a ≡ true
unfolding same_bytes
same_self [] = refl
same_self (x ∷ xs) = rw (eq-eqb x x refl) (same_self xs)

pub not_same : (a b : List ℕ) → same_bytes a b ≡ false → a ≡ b → ⊥
not_same a b e q = never_true (sym e ∙ ap (λ (l : List ℕ). same_bytes a l) (sym q) ∙ same_self a)
