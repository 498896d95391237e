-- The columns of the first rows, and of zeros. Assumes nothing.
use mathlib.Core.Path.{◌≡◌, sym, ◌∙◌}
use mathlib.Core.List.{List}
use Prim.Native.Nat.{ℕ, ◌+◌, ◌*◌, ◌/◌, ◌≤◌, ◌<◌}
use native.Mathlib.Omega.{arith}
use lib.ListN.{get_or, take, length, replicate, length-replicate}
use lib.Seq.{length-take-le, get_or-take, ext_get_or}
use Rattle.base.proofs.Lists.{zeros-at}
use Rattle.ledger.specs.Book.{wide_of, thin_of, wide_column, thin_column}
use Rattle.ledger.proofs.Columns.{wide_read, thin-read, wide-length, thin-length}

-- a way to see columns of a list of rows
pub record Sees (see : ℕ → List ℕ → List ℕ) : Type 0 where
  pub reads : (l : List ℕ) (t c : ℕ) → c < 4 → t < length l / 4 → get_or l (t * 4 + c) 0 ≡ get_or (see c l) t 0
  pub long : (c : ℕ) (l : List ℕ) → length (see c l) ≡ length l / 4

wide-sees : Sees (λ c l. wide_column c (wide_of l))
wide-sees = record { reads = λ l t c. wide_read l t c; long = wide-length }

thin-sees : Sees (λ c l. thin_column c (thin_of l))
thin-sees = record { reads = λ l t c. thin-read l t c; long = thin-length }

module _ (see : ℕ → List ℕ → List ℕ) (s : Sees see) where
  column-take : (c m : ℕ) (l : List ℕ) → c < 4 → 4 * m ≤ length l → see c (take (4 * m) l) ≡ take m (see c l)
  column-take c m l less h =
      let n = length-take-le (4 * m) l h in
      let a = s.long c (take (4 * m) l) in
      let b = s.long c l in
      let d = length-take-le m (see c l) (omega arith) in
      ext_get_or 0 (see c (take (4 * m) l)) (take m (see c l)) (omega arith)
      (λ i k.
      let i' : i < m = omega arith in
      sym (s.reads (take (4 * m) l) i c less (omega arith))
      ∙ (get_or-take (4 * m) l (i * 4 + c) 0 (omega arith)
      ∙ (s.reads l i c less (omega arith) ∙ sym (get_or-take m (see c l) i 0 i'))))

  column-zeros : (c n : ℕ) → c < 4 → see c (replicate n 0) ≡ replicate (n / 4) 0
  column-zeros c n less =
      let e = length-replicate {A = ℕ} n 0 in
      let a = s.long c (replicate n 0) in
      let d = length-replicate {A = ℕ} (n / 4) 0 in
      ext_get_or 0 (see c (replicate n 0)) (replicate (n / 4) 0) (omega arith)
      (λ i k.
      sym (s.reads (replicate n 0) i c less (omega arith))
      ∙ (zeros-at n (i * 4 + c) ∙ sym (zeros-at (n / 4) i)))

pub wide-take : (c m : ℕ) (l : List ℕ) → c < 4 → 4 * m ≤ length l → wide_column c (wide_of (take (4 * m) l)) ≡ take m (wide_column c (wide_of l))
wide-take c m l = column-take _ wide-sees c m l

pub wide-zeros : (c n : ℕ) → c < 4 → wide_column c (wide_of (replicate n 0)) ≡ replicate (n / 4) 0
wide-zeros c n = column-zeros _ wide-sees c n

pub thin-take : (c m : ℕ) (l : List ℕ) → c < 4 → 4 * m ≤ length l → thin_column c (thin_of (take (4 * m) l)) ≡ take m (thin_column c (thin_of l))
thin-take c m l = column-take _ thin-sees c m l

pub thin-zeros : (c n : ℕ) → c < 4 → thin_column c (thin_of (replicate n 0)) ≡ replicate (n / 4) 0
thin-zeros c n = column-zeros _ thin-sees c n
