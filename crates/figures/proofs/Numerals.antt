-- The cases of a numeral: no place, one digit, one digit behind others. Assumes nothing.
use Prim.Native.Nat.{ℕ, zero, suc, ◌-◌, ◌/◌, ◌%◌}
use mathlib.Core.Path.{◌≡◌, refl}
use mathlib.Core.Bool.{true, false, ◌&&◌}
use mathlib.Core.List.{[], ◌∷◌, ◌++◌}
use native.Mathlib.Omega.{arith}
use lib.Dec.{ltb}
use Rattle.figures.specs.Digits.{digit, numeral}

module _ (base least n : ℕ) where
  pub numeral-none : (k : ℕ) → k ≡ 0 → [] ≡ numeral base least k n
  unfolding numeral
  numeral-none k e = rw e

  pub numeral-short : (k : ℕ) → (k ≡ 0 → ⊥) → (ltb n base && ltb least 2) ≡ true → digit (n % base) ∷ [] ≡ numeral base least k n
  unfolding numeral
  numeral-short zero h e = absurd (h refl)
  numeral-short (suc k) h e = rw (e, numeral)

  pub numeral-long : (k : ℕ) → (k ≡ 0 → ⊥) → (ltb n base && ltb least 2) ≡ false → numeral base (least - 1) (k - 1) (n / base) ++ (digit (n % base) ∷ []) ≡ numeral base least k n
  unfolding numeral
  numeral-long zero h e = absurd (h refl)
  numeral-long (suc k) h e =
      let p : suc k - 1 ≡ k = omega arith in
      rw (p, e, numeral)
