-- A put in one column sets that column and leaves the others: once, for every column.
use mathlib.Core.Path.{◌≡◌, refl, sym, ap, ◌∙◌}
use mathlib.Core.List.{List}
use Prim.Native.Nat.{ℕ, zero, suc, ◌+◌, ◌*◌, ◌/◌, ◌≤◌, ◌<◌}
use native.Mathlib.Omega.{arith}
use lib.Dec.{eqb}
use lib.ListN.{get_or, set, drop, length, length-set, get_or-eq_default}
use lib.Seq.{set_out, get_or-set_same, get_or-set_other, get_or-drop, ext_get_or}
use borrow.Author.Tests.{eqb-true, eqb-false}
use Rattle.base.specs.Choose.{choose}
use Rattle.base.proofs.Tests.{cases}
use Rattle.ledger.specs.Columns.{rows, column}
use Rattle.ledger.specs.Book.{wide_of, thin_of, wide_column, thin_column, on_wide, on_thin, put_in}

-- ── a column ──

length-rows : (n c : ℕ) (l : List ℕ) → length (rows n c l) ≡ n
unfolding rows
length-rows zero c l = refl
length-rows (suc n) c l = ap suc (length-rows n c (drop 4 l))

row_at : (n c : ℕ) (l : List ℕ) (t : ℕ) → t < n → get_or (rows n c l) t 0 ≡ get_or l (t * 4 + c) 0
unfolding rows
row_at zero c l t h = absurd (omega arith)
row_at (suc n) c l zero h = ap (λ (i : ℕ). get_or l i 0) (omega arith)
row_at (suc n) c l (suc t) h = row_at n c (drop 4 l) t (omega arith) ∙ (get_or-drop 4 l (t * 4 + c) 0 ∙ ap (λ (i : ℕ). get_or l i 0) (omega arith))

pub length-column : (c : ℕ) (l : List ℕ) → length (column c l) ≡ length l / 4
unfolding column
length-column c l = length-rows _ c l

column-at : (c : ℕ) (l : List ℕ) (t : ℕ) → t < length l / 4 → get_or (column c l) t 0 ≡ get_or l (t * 4 + c) 0
unfolding column
column-at c l t h = row_at _ c l t h

column-past : (c : ℕ) (l : List ℕ) (t : ℕ) → length l / 4 ≤ t → get_or (column c l) t 0 ≡ 0
column-past c l t h = get_or-eq_default (column c l) 0 (rw (length-column c l) h)

-- ── a put ──

module _ (l : List ℕ) (t c v : ℕ) (few : c < 4) (h : t < length l / 4) where
  abbrev put : List ℕ
  put = set l (t * 4 + c) v

  long : length put / 4 ≡ length l / 4
  long = ap (λ (n : ℕ). n / 4) (length-set l (t * 4 + c) v)

  at-put : (d i : ℕ) → i < length (column d put) → (i < length l / 4) × (get_or (column d put) i 0 ≡ get_or put (i * 4 + d) 0)
  at-put d i k = let e = length-column d put in let f = long in (omega arith, column-at d put i (omega arith))

  put-there : column c put ≡ set (column c l) t v
  put-there =
      ext_get_or 0 (column c put) (set (column c l) t v)
      (length-column c put ∙ (long ∙ sym (length-set (column c l) t v ∙ length-column c l)))
      (λ i k.
      let (k', e) = at-put c i k in
      e
      ∙ cases (eqb i t)
      (λ e. let z = eqb-true i t e in rw z (get_or-set_same l (t * 4 + c) v 0 (omega (arith, h)) ∙ sym (get_or-set_same (column c l) t v 0 (omega (arith, h, length-column c l)))))
      (λ e. let z = eqb-false i t e in get_or-set_other l (t * 4 + c) (i * 4 + c) v 0 (λ q. z (omega (arith, q))) ∙ (sym (column-at c l i k') ∙ sym (get_or-set_other (column c l) t i v 0 z))))

  put-elsewhere : (d : ℕ) → d < 4 → (d ≡ c → ⊥) → column d put ≡ column d l
  put-elsewhere d less apart =
      ext_get_or 0 (column d put) (column d l)
      (length-column d put ∙ (long ∙ sym (length-column d l)))
      (λ i k.
      let (k', e) = at-put d i k in
      e ∙ (get_or-set_other l (t * 4 + c) (i * 4 + d) v 0 (λ q. apart (omega (arith, q, few, less))) ∙ sym (column-at d l i k')))

  -- of any column
  put-column : (d : ℕ) → d < 4 → column d put ≡ choose (eqb d c) (set (column d l) t v) (column d l)
  put-column d less = cases (eqb d c)
      (λ e. let z = eqb-true d c e in rw (e, z) put-there)
      (λ e. rw e (put-elsewhere d less (eqb-false d c e)))

put-past : (c : ℕ) (l : List ℕ) (t v : ℕ) → length l / 4 ≤ t → column c l ≡ set (column c l) t v
put-past c l t v h = sym (set_out (column c l) t v (rw (length-column c l) h))

-- ── by the column's number ──

module _ (l : List ℕ) (t : ℕ) where
  pub wide_read : (c : ℕ) → c < 4 → t < length l / 4 → get_or l (t * 4 + c) 0 ≡ get_or (wide_column c (wide_of l)) t 0
  unfolding wide_of
  wide_read zero k h = sym (column-at 0 l t h)
  wide_read (suc zero) k h = sym (column-at 1 l t h)
  wide_read (suc (suc zero)) k h = sym (column-at 2 l t h)
  wide_read (suc (suc (suc zero))) k h = sym (column-at 3 l t h)
  wide_read (suc (suc (suc (suc c)))) k h = absurd (omega arith)

  pub wide-past : (c : ℕ) → length l / 4 ≤ t → 0 ≡ get_or (wide_column c (wide_of l)) t 0
  unfolding wide_of
  wide-past zero h = sym (column-past 0 l t h)
  wide-past (suc zero) h = sym (column-past 1 l t h)
  wide-past (suc (suc zero)) h = sym (column-past 2 l t h)
  wide-past (suc (suc (suc c))) h = sym (column-past 3 l t h)

  pub thin-read : (c : ℕ) → c < 4 → t < length l / 4 → get_or l (t * 4 + c) 0 ≡ get_or (thin_column c (thin_of l)) t 0
  unfolding thin_of
  thin-read zero k h = sym (column-at 0 l t h)
  thin-read (suc zero) k h = sym (column-at 1 l t h)
  thin-read (suc (suc zero)) k h = sym (column-at 2 l t h)
  thin-read (suc (suc (suc zero))) k h = sym (column-at 3 l t h)
  thin-read (suc (suc (suc (suc c)))) k h = absurd (omega arith)

  pub thin-past : (c : ℕ) → length l / 4 ≤ t → 0 ≡ get_or (thin_column c (thin_of l)) t 0
  unfolding thin_of
  thin-past zero h = sym (column-past 0 l t h)
  thin-past (suc zero) h = sym (column-past 1 l t h)
  thin-past (suc (suc zero)) h = sym (column-past 2 l t h)
  thin-past (suc (suc (suc c))) h = sym (column-past 3 l t h)

  module _ (v : ℕ) where
    pub wide-put : (c : ℕ) → c < 4 → t < length l / 4 → wide_of (set l (t * 4 + c) v) ≡ on_wide c (put_in t v) (wide_of l)
    unfolding wide_of
    wide-put zero k h = rw (put-column l t 0 v k h 0 (omega arith), put-column l t 0 v k h 1 (omega arith), put-column l t 0 v k h 2 (omega arith), put-column l t 0 v k h 3 (omega arith))
    wide-put (suc zero) k h = rw (put-column l t 1 v k h 0 (omega arith), put-column l t 1 v k h 1 (omega arith), put-column l t 1 v k h 2 (omega arith), put-column l t 1 v k h 3 (omega arith))
    wide-put (suc (suc zero)) k h = rw (put-column l t 2 v k h 0 (omega arith), put-column l t 2 v k h 1 (omega arith), put-column l t 2 v k h 2 (omega arith), put-column l t 2 v k h 3 (omega arith))
    wide-put (suc (suc (suc zero))) k h = rw (
      put-column l t 3 v k h 0 (omega arith),
      put-column l t 3 v k h 1 (omega arith),
      put-column l t 3 v k h 2 (omega arith),
      put-column l t 3 v k h 3 (omega arith),
    )
    wide-put (suc (suc (suc (suc c)))) k h = absurd (omega arith)

    pub wide-kept : (c : ℕ) → length l / 4 ≤ t → wide_of l ≡ on_wide c (put_in t v) (wide_of l)
    unfolding wide_of
    wide-kept zero h = rw (← put-past 0 l t v h)
    wide-kept (suc zero) h = rw (← put-past 1 l t v h)
    wide-kept (suc (suc zero)) h = rw (← put-past 2 l t v h)
    wide-kept (suc (suc (suc c))) h = rw (← put-past 3 l t v h)

    pub thin-put : (c : ℕ) → c < 4 → t < length l / 4 → thin_of (set l (t * 4 + c) v) ≡ on_thin c (put_in t v) (thin_of l)
    unfolding thin_of
    thin-put zero k h = rw (put-column l t 0 v k h 0 (omega arith), put-column l t 0 v k h 1 (omega arith), put-column l t 0 v k h 2 (omega arith), put-column l t 0 v k h 3 (omega arith))
    thin-put (suc zero) k h = rw (put-column l t 1 v k h 0 (omega arith), put-column l t 1 v k h 1 (omega arith), put-column l t 1 v k h 2 (omega arith), put-column l t 1 v k h 3 (omega arith))
    thin-put (suc (suc zero)) k h = rw (put-column l t 2 v k h 0 (omega arith), put-column l t 2 v k h 1 (omega arith), put-column l t 2 v k h 2 (omega arith), put-column l t 2 v k h 3 (omega arith))
    thin-put (suc (suc (suc zero))) k h = rw (
      put-column l t 3 v k h 0 (omega arith),
      put-column l t 3 v k h 1 (omega arith),
      put-column l t 3 v k h 2 (omega arith),
      put-column l t 3 v k h 3 (omega arith),
    )
    thin-put (suc (suc (suc (suc c)))) k h = absurd (omega arith)

    pub thin-kept : (c : ℕ) → length l / 4 ≤ t → thin_of l ≡ on_thin c (put_in t v) (thin_of l)
    unfolding thin_of
    thin-kept zero h = rw (← put-past 0 l t v h)
    thin-kept (suc zero) h = rw (← put-past 1 l t v h)
    thin-kept (suc (suc zero)) h = rw (← put-past 2 l t v h)
    thin-kept (suc (suc (suc c))) h = rw (← put-past 3 l t v h)

-- ── lengths ──

pub wide-length : (c : ℕ) (l : List ℕ) → length (wide_column c (wide_of l)) ≡ length l / 4
unfolding wide_of
wide-length zero l = length-column 0 l
wide-length (suc zero) l = length-column 1 l
wide-length (suc (suc zero)) l = length-column 2 l
wide-length (suc (suc (suc c))) l = length-column 3 l

pub thin-length : (c : ℕ) (l : List ℕ) → length (thin_column c (thin_of l)) ≡ length l / 4
unfolding thin_of
thin-length zero l = length-column 0 l
thin-length (suc zero) l = length-column 1 l
thin-length (suc (suc zero)) l = length-column 2 l
thin-length (suc (suc (suc c))) l = length-column 3 l
