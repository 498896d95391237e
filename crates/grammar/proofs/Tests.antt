-- What the kind of a token says, by the tests that the readers make of it. Assumes nothing.
use mathlib.Core.Path.{◌≡◌, refl, sym, ◌∙◌}
use mathlib.Core.List.{List, [], ◌∷◌}
use mathlib.Core.Bool.{Bool, true, false, ◌&&◌, not}
use Prim.Native.Nat.{ℕ, zero, suc, ◌≤◌, ◌<◌}
use native.Mathlib.Omega.{arith}
use lib.Dec.{eqb}
use lib.ListN.{get_or, length}
use borrow.Author.Tests.{eqb-true, eq-eqb}
use Rattle.base.specs.Lists.{All, member}
use Rattle.base.proofs.Tests.{never_true, not-true, cases, both}
use Rattle.base.proofs.Lists.{each}

abbrev pub has : List ℕ → (i k : ℕ) → Bool
has kinds i k = eqb (get_or kinds i 0) k

-- a token that has a kind is one of the text
pub in-text : (kinds : List ℕ) (i : ℕ) → 0 < get_or kinds i 0 → i < length kinds
in-text [] i h = absurd (omega arith)
in-text (x ∷ xs) zero h = omega arith
in-text (x ∷ xs) (suc i) h = (let l = in-text xs i h in omega arith)

-- and past the last token the kind is that of the end
pub no-token : (kinds : List ℕ) (i : ℕ) → length kinds ≤ i → get_or kinds i 0 ≡ 0
no-token [] i h = refl
no-token (x ∷ xs) zero h = absurd (omega arith)
no-token (x ∷ xs) (suc i) h = no-token xs i (omega arith)

pub real : (kinds : List ℕ) (i k : ℕ) → 0 < k → get_or kinds i 0 ≡ k → i < length kinds
real kinds i k h e = in-text kinds i (omega arith)

-- a number that is in a list, by the tests of its members
pub later : (k x : ℕ) (l : List ℕ) → member k (x ∷ l) ≡ true → eqb k x ≡ false → member k l ≡ true
later k x l h e = rw e at h

pub the_one : (k x : ℕ) → member k (x ∷ []) ≡ true → k ≡ x
the_one k x h = each (λ z. z ≡ x) (x ∷ []) (refl, tt) k h

pub second : (k x y : ℕ) → member k (x ∷ y ∷ []) ≡ true → eqb k x ≡ false → k ≡ y
second k x y h e = the_one k y (later k x (y ∷ []) h e)

pub first : (k x y : ℕ) → member k (x ∷ y ∷ []) ≡ true → eqb k y ≡ false → k ≡ x
first k x y h e = each (λ z. eqb z y ≡ false → z ≡ x) (x ∷ y ∷ []) (λ d. refl, (λ d. never_true (sym d ∙ eq-eqb y y refl), tt)) k h e

-- what each number of a list passes, one that is in it passes
abbrev pub all_pass : (ℕ → Bool) → List ℕ → Bool
all_pass p [] = true
all_pass p (x ∷ xs) = p x && all_pass p xs

pub passes : (p : ℕ → Bool) (ks : List ℕ) → all_pass p ks ≡ true → (k : ℕ) → member k ks ≡ true → p k ≡ true
passes p ks a k h = each (λ z. p z ≡ true) ks (go ks a) k h
  where
    go : (l : List ℕ) → all_pass p l ≡ true → All (λ z. p z ≡ true) l
    go [] e = tt
    go (x ∷ l) e = ((both (p x) (all_pass p l) e).0, go l (both (p x) (all_pass p l) e).1)

module _ (kinds : List ℕ) (i : ℕ) where
  -- the token is one of the kinds ks
  abbrev pub one_at : List ℕ → Type 0
  one_at ks = member (get_or kinds i 0) ks ≡ true

  pub one-real : (ks : List ℕ) → member 0 ks ≡ false → one_at ks → i < length kinds
  one-real ks z h = in-text kinds i (positive (get_or kinds i 0) h)
    where
      positive : (k : ℕ) → member k ks ≡ true → 0 < k
      positive zero m = never_true (sym z ∙ m)
      positive (suc k) m = omega arith

  -- the token is of none of the kinds that ks lacks
  pub isnt-one : (ks : List ℕ) (y : ℕ) → one_at ks → member y ks ≡ false → has kinds i y ≡ false
  isnt-one ks y h e = cases (has kinds i y) (λ t. never_true (sym e ∙ (rw (eqb-true _ y t) at h))) (λ f. f)

  pub fails : (p : ℕ → Bool) (ks : List ℕ) → one_at ks → all_pass (λ k. not (p k)) ks ≡ true → p (get_or kinds i 0) ≡ false
  fails p ks h a = not-true _ (passes (λ k. not (p k)) ks a _ h)

  pub inside : (ks ls : List ℕ) → one_at ks → all_pass (λ k. member k ls) ks ≡ true → one_at ls
  inside ks ls h a = passes (λ k. member k ls) ks a _ h

  -- the token's kind is known
  pub isnt : {k : ℕ} (y : ℕ) → get_or kinds i 0 ≡ k → eqb k y ≡ false → has kinds i y ≡ false
  isnt y h e = rw h e
