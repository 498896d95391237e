-- From one computed test to each case: `at` gives a table's rule at each entry, `all-below` a fact of each number below a bound. Assumes nothing.
use Prim.Native.Nat.{ℕ, zero, suc, ◌+◌, ◌≤◌, ◌<◌}
use mathlib.Core.Path.{◌≡◌, subst}
use mathlib.Core.Bool.{Bool}
use mathlib.Core.List.{List, [], ◌∷◌}
use native.Mathlib.Omega.{arith}
use native.Mathlib.Decide.{dec_le}
use lib.Dec.{T}
use lib.ListN.{length, get_or}
use Rattle.base.specs.Tables.{every, all_below}
use Rattle.base.proofs.Tests.{and_left, and_right}

module _ {A : Type 0} (f : ℕ → A → Bool) (d : A) where
  from : (xs : List A) (i : ℕ) → T (every f i xs) → (k : ℕ) → k < length xs → T (f (i + k) (get_or xs k d))
  from [] i t k h = absurd (omega arith)
  from (x ∷ xs) i t zero h = let e : i ≡ i + 0 = omega arith in subst (λ (m : ℕ). T (f m x)) e (and_left (f i x) (every f (suc i) xs) t)
  from (x ∷ xs) i t (suc k) h =
      let e : suc i + k ≡ i + suc k = omega arith in
      subst (λ (m : ℕ). T (f m (get_or xs k d))) e (from xs (suc i) (and_right (f i x) (every f (suc i) xs) t) k (omega arith))

  pub at : (xs : List A) → T (every f 0 xs) → (k : ℕ) → k < length xs → T (f k (get_or xs k d))
  at xs t k h = let e : 0 + k ≡ k = omega arith in subst (λ (m : ℕ). T (f m (get_or xs k d))) e (from xs 0 t k h)

pub all-below : (n : ℕ) (p : ℕ → Bool) → T (all_below n p) → (k : ℕ) → k < n → T (p k)
all-below zero p t k h = absurd (omega arith)
all-below (suc n) p t k h = go (all-below n p (and_right (p n) (all_below n p) t)) (dec_le n k)
  where
    go : ((k : ℕ) → k < n → T (p k)) → Dec (n ≤ k) → T (p k)
    go ih (yes l) = let q : k ≡ n = omega arith in rw q (and_left (p n) (all_below n p) t)
    go ih (no l) = ih k (omega arith)
