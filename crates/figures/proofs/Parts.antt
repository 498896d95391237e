-- How loops go along texts that are parted: `behind` from its start to its end, `filled` a byte at a time. Assumes nothing.
use Prim.Native.Nat.{ℕ, ◌+◌, ◌-◌, ◌≤◌, ◌<◌}
use mathlib.Core.Path.{◌≡◌, refl, sym, ◌∙◌}
use mathlib.Core.Bool.{Bool, true, false, not}
use mathlib.Core.List.{List, [], ◌∷◌, ◌++◌, append_assoc, append-nil}
use native.Mathlib.Omega.{arith}
use Rattle.std.proofs.Math.Nat.{le_refl}
use native.Mathlib.Numerals.{add-one}
use borrow.Author.Tests.{ne_eqb}
use Rattle.std.proofs.lemmas.Bool.{ltb-true, ltb-false}
use Rattle.std.proofs.lemmas.List.Sums.{prefix_len-le-length}
use lib.Dec.{eqb, ltb}
use lib.ListN.{length, take, drop, get_or, drop_of_length-le}
use lib.Seq.{drop-cons, take-suc}
use Rattle.std.specs.Prelude.{Option, position}
use Rattle.std.specs.Option.{unwrap_or}
use Rattle.std.specs.List.{position_or_len}
use Rattle.base.proofs.Parts.{to_end}
use Rattle.figures.specs.Parts.{left_after, behind, part_length, part_of, shown, filled}

behind-zero : (sep : ℕ) (l : List ℕ) → behind sep 0 l ≡ l
unfolding behind
behind-zero sep [] = refl
behind-zero sep (x ∷ xs) = refl

module _ (sep n : ℕ) (s : List ℕ) (i : ℕ) where
  pub behind-on : (k : ℕ) → i < length s → 0 < k → behind sep n s ≡ behind sep k (drop i s) → behind sep n s ≡ behind sep (left_after (get_or s i 0) sep k) (drop (i + 1) s)
  unfolding behind
  behind-on k h q inv =
      let e : eqb k 0 ≡ false = ne_eqb k 0 (λ z. omega arith) in
      rw (add-one i) (inv ∙ rw (drop-cons s i 0, e, behind))

  pub behind-none : (k : ℕ) → k ≤ 0 → behind sep n s ≡ behind sep k (drop i s) → drop i s ≡ behind sep n s
  behind-none k h inv = let z : k ≡ 0 = omega arith in sym (inv ∙ rw z (behind-zero sep (drop i s)))

  pub behind-end : (k : ℕ) → length s ≤ i → behind sep n s ≡ behind sep k (drop i s) → drop (length s) s ≡ behind sep n s
  unfolding behind
  behind-end k h inv = rw (drop_of_length-le s (le_refl (length s))) (sym (inv ∙ rw (drop_of_length-le s h)))

-- one byte more is taken into a phrase
pub filled_more : (n : ℕ) (s t : List ℕ) → filled n (s ++ t) ≡ filled n s ++ filled n t
unfolding filled
filled_more n [] t = refl
filled_more n (x ∷ xs) t = rw (filled_more n xs t) (sym (append_assoc (shown n x) (filled n xs) (filled n t)))

pub filled_on : (n : ℕ) (s : List ℕ) (i : ℕ) → i < length s → filled n (take i s) ++ shown n (get_or s i 0) ≡ filled n (take (i + 1) s)
unfolding filled
filled_on n s i l = rw (add-one i, take-suc s i 0 l, filled_more n (take i s), append-nil)

-- the place of the first that passes, and the length where none does
pub first_place : (p : ℕ → Bool) (s : List ℕ) {r : Option ℕ} {n : ℕ} → r ≡ position p s → n ≡ unwrap_or r (length s) → (n ≡ position_or_len p s) × (n ≤ length s)
first_place p s {r} {n} e f = go (ltb (position_or_len p s) (length s)) refl
  where
    go : (t : Bool) → ltb (position_or_len p s) (length s) ≡ t → (n ≡ position_or_len p s) × (n ≤ length s)
    go true q =
        let g : n ≡ position_or_len p s = f ∙ rw (e, q) in
        (g, omega (arith, g, ltb-true _ _ q))
    go false q =
        let g : n ≡ length s = f ∙ rw (e, q) in
        (omega (arith, g, ltb-false _ _ q, prefix_len-le-length (λ x. not (p x)) s), omega (arith, g))

-- the part that is cut out is the part
pub part-is : (sep n : ℕ) (s : List ℕ) (from size : ℕ) → drop from s ≡ behind sep n s → size ≡ part_length sep (take (length s - from) (drop from s))
    → take (from + size - from) (drop from s) ≡ part_of sep n s
part-is sep n s from size e f =
    let g : from + size - from ≡ size = omega arith in
    rw (g, f, to_end s from, e)
