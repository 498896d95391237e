-- From one place of a text to another: `onward-is` for a place that is counted from another, `along-is` past bytes that end no line; `near` bounds both numbers.
-- Assumes nothing.
use Prim.Native.Nat.{ℕ, suc, ◌+◌, ◌-◌, ◌≤◌}
use mathlib.Core.Path.{◌≡◌, refl, ap, ◌∙◌}
use mathlib.Core.Bool.{false}
use mathlib.Core.List.{List, [], ◌∷◌, ◌++◌}
use native.Mathlib.Omega.{arith}
use lib.Dec.{eqb}
use lib.ListN.{length, take, drop, length-take}
use lib.Seq.{take-add}
use borrow.Author.Tests.{eq-eqb, ne_eqb, eqb-true}
use Rattle.base.specs.Choose.{choose}
use Rattle.base.specs.Walk.{fold}
use Rattle.base.proofs.Parts.{length_part}
use Rattle.base.proofs.Tests.{cases}
use Rattle.base.proofs.Walk.{fold-append}
use Rattle.spots.specs.Spots.{spot, next_line, next_column, line_from, column_from, spot_at, NoNewline}
use Rattle.spots.specs.Going.{Near, onward, along}

-- ── lines and columns from a number on ──

pub line-most : (n : ℕ) (l : List ℕ) → (n ≤ line_from n l) × (line_from n l ≤ n + length l)
unfolding fold
line-most n [] = (omega arith, omega arith)
line-most n (x ∷ l) = go (line-most (n + 1) l) (line-most n l)
  where
    go : (n + 1 ≤ line_from (n + 1) l) × (line_from (n + 1) l ≤ n + 1 + length l) → (n ≤ line_from n l) × (line_from n l ≤ n + length l)
        → (n ≤ line_from (next_line n x) l) × (line_from (next_line n x) l ≤ n + suc (length l))
    go h k = cases (eqb x 10) (λ e. rw e (omega arith, omega arith)) (λ e. rw e (omega arith, omega arith))

pub column-most : (n : ℕ) (l : List ℕ) → 1 ≤ n → (1 ≤ column_from n l) × (column_from n l ≤ n + length l)
unfolding fold
column-most n [] h = (h, omega arith)
column-most n (x ∷ l) h = go (column-most 1 l (omega arith)) (column-most (n + 1) l (omega arith))
  where
    go : (1 ≤ column_from 1 l) × (column_from 1 l ≤ 1 + length l) → (1 ≤ column_from (n + 1) l) × (column_from (n + 1) l ≤ n + 1 + length l)
        → (1 ≤ column_from (next_column n x) l) × (column_from (next_column n x) l ≤ n + suc (length l))
    go h k = cases (eqb x 10) (λ e. rw e (omega arith, omega arith)) (λ e. rw e (omega arith, omega arith))

line-later : (a n : ℕ) (l : List ℕ) → line_from (a + n) l ≡ a + line_from n l
unfolding fold
line-later a n [] = refl
line-later a n (x ∷ l) = go (line-later a (n + 1) l) (line-later a n l)
  where
    go : line_from (a + (n + 1)) l ≡ a + line_from (n + 1) l → line_from (a + n) l ≡ a + line_from n l → line_from (next_line (a + n) x) l ≡ a + line_from (next_line n x) l
    go h k =
        let j : a + n + 1 ≡ a + (n + 1) = omega arith in
        cases (eqb x 10) (λ e. rw (e, j) h) (λ e. rw e k)

-- a column counts on where no line has ended, and begins anew where one has
column-later : (a k n : ℕ) (l : List ℕ) → column_from (a + n) l ≡ choose (eqb (line_from k l) k) (a + column_from n l) (column_from n l)
unfolding fold
column-later a k n [] = rw (eq-eqb k k refl)
column-later a k n (x ∷ l) = go (column-later a k (n + 1) l) (line-most (k + 1) l)
  where
    go : column_from (a + (n + 1)) l ≡ choose (eqb (line_from k l) k) (a + column_from (n + 1) l) (column_from (n + 1) l)
        → (k + 1 ≤ line_from (k + 1) l) × (line_from (k + 1) l ≤ k + 1 + length l)
        → column_from (next_column (a + n) x) l ≡ choose (eqb (line_from (next_line k x) l) k) (a + column_from (next_column n x) l) (column_from (next_column n x) l)
    go h m =
        let j : a + n + 1 ≡ a + (n + 1) = omega arith in
        cases (eqb x 10) (λ e. rw (e, ne_eqb (line_from (k + 1) l) k (λ q. omega arith))) (λ e. rw (e, j) h)

-- bytes that end no line
pub plain-line : (n : ℕ) (l : List ℕ) → NoNewline l → line_from n l ≡ n
unfolding fold
plain-line n [] f = refl
plain-line n (x ∷ l) f = rw f.0 (plain-line n l f.1)

pub plain-column : (n : ℕ) (l : List ℕ) → NoNewline l → column_from n l ≡ n + length l
unfolding fold
plain-column n [] f = omega arith
plain-column n (x ∷ l) f = rw f.0 (omega (arith, plain-column (n + 1) l f.1))

-- behind the last byte 10
pub since-last : (n : ℕ) (front since : List ℕ) → NoNewline since → column_from n (front ++ 10 ∷ since) ≡ 1 + length since
unfolding fold
since-last n front since h = rw (fold-append next_column n front (10 ∷ since)) (plain-column 1 since h)

-- where the line has not moved
pub same_line : (n : ℕ) (l : List ℕ) → line_from n l ≡ n → NoNewline l
unfolding fold
same_line n [] e = tt
same_line n (x ∷ l) e = go (line-most (n + 1) l) (same_line n l)
  where
    go : (n + 1 ≤ line_from (n + 1) l) × (line_from (n + 1) l ≤ n + 1 + length l) → (line_from n l ≡ n → NoNewline l) → (eqb x 10 ≡ false) × NoNewline l
    go m h = cases (eqb x 10) (λ t. let f = (rw t at e) in absurd (omega arith)) (λ t. (t, h (rw t at e)))

-- ── of a text ──

module _ (s : List ℕ) where
  pub near : (p : ℕ) → p ≤ length s → length s ≤ 4294967296 → Near (spot_at s p)
  near p h m =
      let a = line-most 1 (take p s) in
      let b = column-most 1 (take p s) (omega arith) in
      let l = length-take p s in
      record { place = omega arith; some-line = omega arith; line = omega arith; some-column = omega arith; column = omega arith }

  pub onward-is : (a p : ℕ) → onward (spot_at s a) (spot_at (drop a s) p) ≡ spot_at s (a + p)
  onward-is a p = rw (take-add a p s, fold-append next_line 1 (take a s) (take p (drop a s)), fold-append next_column 1 (take a s) (take p (drop a s))) (joined (take a s) (take p (drop a s)))
    where
      joined : (b t : List ℕ) → onward (spot a (line_from 1 b) (column_from 1 b)) (spot p (line_from 1 t) (column_from 1 t)) ≡ spot (a + p) (line_from (line_from 1 b) t) (column_from (column_from 1 b) t)
      joined b t = by (line_from 1 b) (column_from 1 b) (line-most 1 b).0 (column-most 1 b (omega arith)).0
        where
          by : (l c : ℕ) → 1 ≤ l → 1 ≤ c → onward (spot a l c) (spot p (line_from 1 t) (column_from 1 t)) ≡ spot (a + p) (line_from l t) (column_from c t)
          by l c h k =
              let u : line_from l t ≡ l - 1 + line_from 1 t = (let e : l ≡ l - 1 + 1 = omega arith in ap (λ (n : ℕ). line_from n t) e ∙ line-later (l - 1) 1 t) in
              let v : column_from c t ≡ choose (eqb (line_from 1 t) 1) (c - 1 + column_from 1 t) (column_from 1 t) =
              (let e : c ≡ c - 1 + 1 = omega arith in ap (λ (n : ℕ). column_from n t) e ∙ column-later (c - 1) 1 1 t) in
              let m = column-most 1 t (omega arith) in
              let n = line-most 1 t in
              cases (eqb (line_from 1 t) 1)
              (λ e.
              let z = eqb-true (line_from 1 t) 1 e in
              let u' : line_from l t ≡ l = omega arith in
              let v' : column_from c t ≡ c + column_from 1 t - 1 = (rw e at v) ∙ omega arith in
              rw (e, u', v'))
              (λ e.
              let u' : line_from l t ≡ l + line_from 1 t - 1 = omega arith in
              let v' : column_from c t ≡ column_from 1 t = rw e at v in
              rw (e, u', v'))

  -- past n bytes that end no line
  pub along-is : (a n : ℕ) → a + n ≤ length s → NoNewline (take n (drop a s)) → along (spot_at s a) n ≡ spot_at s (a + n)
  along-is a n h f =
      let z : length (take n (drop a s)) ≡ n = length_part s a n h in
      rw (
        take-add a n s,
        fold-append next_line 1 (take a s) (take n (drop a s)),
        fold-append next_column 1 (take a s) (take n (drop a s)),
        plain-line (line_from 1 (take a s)) (take n (drop a s)) f,
        plain-column (column_from 1 (take a s)) (take n (drop a s)) f,
        z,
      )
