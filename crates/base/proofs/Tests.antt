-- How tests in definitions are answered from the facts that branches leave: the rulesets `tests` and `picks`, `cases` and `by-test` for cases on a
-- test, `told`, `same`, `other`, `tested` for the answer of a call, `never_true` for what cannot be. Assumes nothing.
use Prim.Native.Nat.{ℕ}
use mathlib.Core.Path.{◌≡◌, refl, sym, ap, ◌∙◌, subst}
use mathlib.Core.Bool.{Bool, true, false, not, ◌&&◌, ◌||◌}
use lib.Dec.{T, eqb}
use borrow.Author.Tests.{lt-ltb, le-ltb, le-leb, lt-leb, eq-eqb, ne_eqb}
use Rattle.base.specs.Choose.{choose}
pub use borrow.Author.Tests.{not-true, not-false}

-- `search tests` turns ltb, leb and eqb by the facts lt, le and eq in reach
pub ruleset tests = (lt-ltb, le-ltb, le-leb, lt-leb, eq-eqb, ne_eqb)

pub pick_true {ℓ} : {A : Type ℓ} (t : Bool) (a b : A) {z : A} → t ≡ true → z ≡ a → z ≡ choose t a b
pick_true t a b h e = rw h e

pub pick-false {ℓ} : {A : Type ℓ} (t : Bool) (a b : A) {z : A} → t ≡ false → z ≡ b → z ≡ choose t a b
pick-false t a b h e = rw h e

-- `search picks` also goes into a choice one answer at a time
pub ruleset picks = (pick_true, pick-false, lt-ltb, le-ltb, le-leb, lt-leb, eq-eqb, ne_eqb)

pub cases {ℓ} : {P : Type ℓ} (t : Bool) → (t ≡ true → P) → (t ≡ false → P) → P
cases true f g = f refl
cases false f g = g refl

-- a choice has a property where each answer has it under its test
pub by-test {ℓ} : {A : Type ℓ} (P : A → Type 0) (t : Bool) (a b : A) → (t ≡ true → P a) → (t ≡ false → P b) → P (choose t a b)
by-test P true a b f g = f refl
by-test P false a b f g = g refl

pub told : {b r t : Bool} → r ≡ b → r ≡ t → b ≡ t
told p q = sym p ∙ q

pub same : {a r v : ℕ} → r ≡ a → r ≡ v → a ≡ v
same p q = sym p ∙ q

pub other : {a r v : ℕ} → r ≡ a → (r ≡ v → ⊥) → a ≡ v → ⊥
other p n q = n (p ∙ q)

pub tested : (r a n : ℕ) → r ≡ a → eqb r n ≡ eqb a n
tested r a n e = ap (λ (x : ℕ). eqb x n) e

pub never_true {ℓ} : {A : Type ℓ} → false ≡ true → A
never_true e = absurd (subst T (sym e) tt)

-- a test that computes, and its parts
pub is_true : (t : Bool) → T t → t ≡ true
is_true true h = refl
is_true false h = absurd h

pub and_left : (a b : Bool) → T (a && b) → T a
and_left true b t = tt
and_left false b t = t

pub and_right : (a b : Bool) → T (a && b) → T b
and_right true b t = t
and_right false b t = absurd t

-- two tests that are passed together
pub both : (a b : Bool) → (a && b) ≡ true → (a ≡ true) × (b ≡ true)
both true b e = (refl, e)
both false b e = never_true e

-- a rule on what passes a test, tested
pub implied : (a b : Bool) → T (not a || b) → a ≡ true → T b
implied true b t e = t
implied false b t e = never_true e
