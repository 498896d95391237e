-- Lines and columns by counting bytes: the bytes 10, and those behind the last of them. Assumes nothing.
use Rattle.std.proofs.Common.{ℕ, suc, ◌≡◌, ◌+◌, ◌≤◌, ◌<◌, false, not, cond, List, [], ◌∷◌, length, eqb, ap, ◌∙◌, arith}
use Rattle.std.specs.List.{count_by, prefix_len, suffix_len}
use Rattle.std.proofs.lemmas.List.{length-reverse}
use Rattle.std.proofs.lemmas.List.Folds.{prefix_len-append}
use Rattle.std.proofs.lemmas.List.Sums.{sum_by-cons, suffix_len-le-length}
use mathlib.Core.List.{reverse, reverse-cons}
use lib.Arith.{lt_of_le-ne}
use borrow.Author.Tests.{eq-eqb, ne_eqb, eqb-true, eqb-false}
use Rattle.base.specs.Walk.{fold}
use Rattle.base.proofs.Tests.{cases}
use Rattle.spots.specs.Spots.{next_line, next_column, line_from, column_from}

pub line-counted : (n : ℕ) (l : List ℕ) → line_from n l ≡ n + count_by (λ b. eqb b 10) l
unfolding fold
line-counted n [] = omega arith
line-counted n (x ∷ l) = go (line-counted (n + 1) l) (line-counted n l) (sum_by-cons (λ b. cond (eqb b 10) 1 0) x l)
  where
    go : line_from (n + 1) l ≡ n + 1 + count_by (λ b. eqb b 10) l → line_from n l ≡ n + count_by (λ b. eqb b 10) l
        → count_by (λ b. eqb b 10) (x ∷ l) ≡ cond (eqb x 10) 1 0 + count_by (λ b. eqb b 10) l → line_from (next_line n x) l ≡ n + count_by (λ b. eqb b 10) (x ∷ l)
    go h k e = rw e (cases (eqb x 10) (λ t. rw t (omega arith)) (λ t. rw t (omega arith)))

since : List ℕ → ℕ
since l = suffix_len (λ b. not (eqb b 10)) l

-- one byte more in front
since-cons : (x : ℕ) (l : List ℕ) → since (x ∷ l) ≡ cond (eqb (since l) (length l)) (length l + cond (not (eqb x 10)) 1 0) (since l)
unfolding since
since-cons x l =
    ap (prefix_len (λ b. not (eqb b 10))) (reverse-cons x l) ∙ prefix_len-append (λ b. not (eqb b 10)) (reverse l) (x ∷ []) ∙ rw (length-reverse l)

-- the step, over numbers
step :
    (column : ℕ → ℕ) (n x m k k' : ℕ) → column 1 ≡ cond (eqb k m) (1 + m) (1 + k) → column (n + 1) ≡ cond (eqb k m) (n + 1 + m) (1 + k)
    → k' ≡ cond (eqb k m) (m + cond (not (eqb x 10)) 1 0) k → k ≤ m → column (next_column n x) ≡ cond (eqb k' (suc m)) (n + suc m) (1 + k')
step column n x m k k' a b e h =
    cases (eqb k m)
    (λ t.
    let a' : column 1 ≡ 1 + m = rw t at a in
    let b' : column (n + 1) ≡ n + 1 + m = rw t at b in
    let e' : k' ≡ m + cond (not (eqb x 10)) 1 0 = rw t at e in
    cases (eqb x 10)
    (λ u.
    let q : k' ≡ m = (rw u at e') ∙ omega arith in
    rw (u, ne_eqb k' (suc m) (λ r. omega arith)) (omega arith))
    (λ u.
    let q : k' ≡ suc m = (rw u at e') ∙ omega arith in
    rw (u, eq-eqb k' (suc m) q) (omega arith)))
    (λ t.
    let l : k < m = lt_of_le-ne h (eqb-false k m t) in
    let a' : column 1 ≡ 1 + k = rw t at a in
    let b' : column (n + 1) ≡ 1 + k = rw t at b in
    let e' : k' ≡ k = rw t at e in
    let f : eqb k' (suc m) ≡ false = ne_eqb k' (suc m) (λ r. omega arith) in
    cases (eqb x 10) (λ u. rw (u, f) (omega arith)) (λ u. rw (u, f) (omega arith)))

-- where no byte ends a line the column goes on, and behind the last that does it begins anew
column-since : (n : ℕ) (l : List ℕ) → column_from n l ≡ cond (eqb (since l) (length l)) (n + length l) (1 + since l)
unfolding fold since
column-since n [] = omega arith
column-since n (x ∷ l) =
    step (λ i. column_from i l) n x (length l) (since l) (since (x ∷ l)) (column-since 1 l) (column-since (n + 1) l) (since-cons x l)
    (suffix_len-le-length (λ b. not (eqb b 10)) l)

pub column-counted : (l : List ℕ) → column_from 1 l ≡ suffix_len (λ b. not (eqb b 10)) l + 1
unfolding since
column-counted l =
    cases (eqb (since l) (length l))
    (λ e. let z = eqb-true (since l) (length l) e in column-since 1 l ∙ rw e (omega arith))
    (λ e. column-since 1 l ∙ rw e (omega arith))
