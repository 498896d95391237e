-- A column is cleared row by row: after t turns its first t rows are zeros.
use mathlib.Core.Path.{◌≡◌, refl, sym, ◌∙◌}
use mathlib.Core.List.{List}
use Prim.Native.Nat.{ℕ, zero, suc, ◌+◌, ◌/◌, ◌≤◌, ◌<◌}
use native.Mathlib.Omega.{arith}
use native.Mathlib.Numerals.{add-one}
use lib.Dec.{eqb}
use lib.ListN.{get_or, set, length, length-set, length-replicate}
use lib.Seq.{get_or-set_same, get_or-set_other, ext_get_or}
use borrow.Author.Tests.{eqb-true, eqb-false}
use Rattle.base.proofs.Tests.{cases}
use Rattle.base.proofs.Lists.{zeros-at}
use Rattle.ledger.specs.Columns.{column}
use Rattle.ledger.specs.Book.{Wide, Thin, wide_of, thin_of, on_wide, on_thin, put_in, zeros}
use Rattle.ledger.proofs.Columns.{length-column}

unfoldable pub cleared_to : ℕ → List ℕ → List ℕ
cleared_to zero l = l
cleared_to (suc t) l = set (cleared_to t l) t 0

length-cleared : (t : ℕ) (l : List ℕ) → length (cleared_to t l) ≡ length l
unfolding cleared_to
length-cleared zero l = refl
length-cleared (suc t) l = length-set (cleared_to t l) t 0 ∙ length-cleared t l

cleared_at : (t i : ℕ) (l : List ℕ) → i < t → i < length l → get_or (cleared_to t l) i 0 ≡ 0
unfolding cleared_to
cleared_at zero i l h k = absurd (omega arith)
cleared_at (suc t) i l h k = cases (eqb i t)
    (λ e. let z = eqb-true i t e in rw z (get_or-set_same (cleared_to t l) t 0 0 (omega (arith, length-cleared t l))))
    (λ e. let z = eqb-false i t e in get_or-set_other (cleared_to t l) t i 0 0 z ∙ cleared_at t i l (ne-below i t h z) k)
  where
    ne-below : (i t : ℕ) → i < suc t → (i ≡ t → ⊥) → i < t
    ne-below i t h z = omega arith

all-cleared : (t : ℕ) (l : List ℕ) → length l ≤ t → cleared_to t l ≡ zeros l
all-cleared t l h =
    ext_get_or 0 (cleared_to t l) (zeros l) (length-cleared t l ∙ sym (length-replicate {A = ℕ} (length l) 0))
    (λ i k. let e = length-cleared t l in cleared_at t i l (omega arith) (omega arith) ∙ sym (zeros-at (length l) i))

module _ (l : List ℕ) (t : ℕ) where
  pub wide-starts : (c : ℕ) → wide_of l ≡ on_wide c (cleared_to 0) (wide_of l)
  unfolding cleared_to
  wide-starts zero = refl
  wide-starts (suc zero) = refl
  wide-starts (suc (suc zero)) = refl
  wide-starts (suc (suc (suc c))) = refl

  pub wide-turns : (c : ℕ) {w w' : Wide} → w ≡ on_wide c (cleared_to t) (wide_of l) → w' ≡ on_wide c (put_in t 0) w → w' ≡ on_wide c (cleared_to (t + 1)) (wide_of l)
  unfolding cleared_to
  wide-turns zero e f = f ∙ rw (e, add-one t)
  wide-turns (suc zero) e f = f ∙ rw (e, add-one t)
  wide-turns (suc (suc zero)) e f = f ∙ rw (e, add-one t)
  wide-turns (suc (suc (suc c))) e f = f ∙ rw (e, add-one t)

  cleared-column : (c : ℕ) → length l / 4 ≤ t → cleared_to t (column c l) ≡ zeros (column c l)
  cleared-column c h = all-cleared t (column c l) (rw (length-column c l) h)

  pub wide-ends : (c : ℕ) {w : Wide} → length l / 4 ≤ t → w ≡ on_wide c (cleared_to t) (wide_of l) → w ≡ on_wide c zeros (wide_of l)
  unfolding wide_of
  wide-ends zero h e = e ∙ rw (cleared-column 0 h)
  wide-ends (suc zero) h e = e ∙ rw (cleared-column 1 h)
  wide-ends (suc (suc zero)) h e = e ∙ rw (cleared-column 2 h)
  wide-ends (suc (suc (suc c))) h e = e ∙ rw (cleared-column 3 h)

  pub thin-starts : (c : ℕ) → thin_of l ≡ on_thin c (cleared_to 0) (thin_of l)
  unfolding cleared_to
  thin-starts zero = refl
  thin-starts (suc zero) = refl
  thin-starts (suc (suc zero)) = refl
  thin-starts (suc (suc (suc c))) = refl

  pub thin-turns : (c : ℕ) {b b' : Thin} → b ≡ on_thin c (cleared_to t) (thin_of l) → b' ≡ on_thin c (put_in t 0) b → b' ≡ on_thin c (cleared_to (t + 1)) (thin_of l)
  unfolding cleared_to
  thin-turns zero e f = f ∙ rw (e, add-one t)
  thin-turns (suc zero) e f = f ∙ rw (e, add-one t)
  thin-turns (suc (suc zero)) e f = f ∙ rw (e, add-one t)
  thin-turns (suc (suc (suc c))) e f = f ∙ rw (e, add-one t)

  pub thin-ends : (c : ℕ) {b : Thin} → length l / 4 ≤ t → b ≡ on_thin c (cleared_to t) (thin_of l) → b ≡ on_thin c zeros (thin_of l)
  unfolding thin_of
  thin-ends zero h e = e ∙ rw (cleared-column 0 h)
  thin-ends (suc zero) h e = e ∙ rw (cleared-column 1 h)
  thin-ends (suc (suc zero)) h e = e ∙ rw (cleared-column 2 h)
  thin-ends (suc (suc (suc c))) h e = e ∙ rw (cleared-column 3 h)
