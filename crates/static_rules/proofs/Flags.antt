-- Sets of registers are what their tests say, for registers 0 to 15; what is added stays, and a set that spares a list has nothing of it.
use mathlib.Core.Path.{◌≡◌, refl, sym, ap, ◌∙◌}
use mathlib.Core.Logic.{◌⊎◌, inl, inr}
use mathlib.Core.List.{List, [], ◌∷◌, map}
use mathlib.Core.Bool.{Bool, true, false, ◌&&◌, ◌||◌, not}
use Prim.Native.Nat.{ℕ, zero, suc, ◌<◌}
use native.Mathlib.Omega.{arith}
use lib.Dec.{eqb}
use lib.ListN.{length, get_or}
use borrow.Author.Tests.{eqb-true, eq-eqb}
use Rattle.base.specs.Choose.{whether◌then◌else◌}
use Rattle.base.specs.Lists.{◌∈◌}
use Rattle.base.proofs.Tests.{never_true, is_true}
use Rattle.base.proofs.Tables.{all-below}
use Rattle.static_rules.specs.Registers.{Registers, sixteen, flags, has, no_registers, add_register, union, spares}

pub length-flags : (f : ℕ → Bool) → length (flags f) ≡ 16
unfolding flags
length-flags f = refl

flag_is : (b : Bool) → eqb (whether b then 1 else 0) 1 ≡ b
flag_is true = refl
flag_is false = refl

map_at : (g : ℕ → ℕ) (l : List ℕ) (r : ℕ) → r < length l → get_or (map g l) r 0 ≡ g (get_or l r 0)
map_at g [] r h = absurd (omega arith)
map_at g (x ∷ l) zero h = refl
map_at g (x ∷ l) (suc r) h = map_at g l r (omega arith)

pub has-flags : (f : ℕ → Bool) (r : ℕ) → r < 16 → has (flags f) r ≡ f r
unfolding flags has
has-flags f r h =
    ap (λ (x : ℕ). eqb x 1) (map_at (λ (x : ℕ). whether f x then 1 else 0) sixteen r h)
    ∙ (flag_is (f (get_or sixteen r 0)) ∙ ap f (eqb-true (get_or sixteen r 0) r (is_true _ (all-below 16 (λ k. eqb (get_or sixteen k 0) k) tt r h))))

pub has-none : (r : ℕ) → r < 16 → has no_registers r ≡ false
has-none r h = has-flags (λ x. false) r h

pub has-add : (x : ℕ) (s : Registers) (r : ℕ) → r < 16 → has (add_register x s) r ≡ (eqb r x || has s r)
unfolding add_register
has-add x s r h = has-flags (λ y. eqb y x || has s y) r h

pub has-union : (s t : Registers) (r : ℕ) → r < 16 → has (union s t) r ≡ (has s r || has t r)
unfolding union
has-union s t r h = has-flags (λ y. has s y || has t y) r h

or_right : (a b : Bool) → b ≡ true → (a || b) ≡ true
or_right true b h = refl
or_right false b h = h

or_left : (a b : Bool) → a ≡ true → (a || b) ≡ true
or_left a b h = rw h

pub add-has : (x : ℕ) (s : Registers) → x < 16 → has (add_register x s) x ≡ true
add-has x s h = has-add x s x h ∙ or_left _ _ (eq-eqb x x refl)

pub add-keeps : (x : ℕ) (s : Registers) (r : ℕ) → r < 16 → has s r ≡ true → has (add_register x s) r ≡ true
add-keeps x s r h k = has-add x s r h ∙ or_right (eqb r x) (has s r) k

pub union_left : (s t : Registers) (r : ℕ) → r < 16 → has s r ≡ true → has (union s t) r ≡ true
union_left s t r h k = has-union s t r h ∙ or_left _ _ k

pub union_right : (s t : Registers) (r : ℕ) → r < 16 → has t r ≡ true → has (union s t) r ≡ true
union_right s t r h k = has-union s t r h ∙ or_right (has s r) (has t r) k

-- what a set spares it does not have
pub spares-is : (s : Registers) (rs : List ℕ) → spares s rs ≡ true → (r : ℕ) → r ∈ rs → has s r ≡ true → ⊥
unfolding spares
spares-is s [] h r i k = absurd i
spares-is s (x ∷ rs) h r i k = go (has s x) refl h i (λ e. spares-is s rs e r)
  where
    go : (b : Bool) → has s x ≡ b → (not b && spares s rs) ≡ true → (r ≡ x) ⊎ (r ∈ rs) → (spares s rs ≡ true → r ∈ rs → has s r ≡ true → ⊥) → ⊥
    go true e q j f = never_true q
    go false e q (inl j) f = never_true (sym e ∙ (ap (has s) (sym j) ∙ k))
    go false e q (inr j) f = f q j k
