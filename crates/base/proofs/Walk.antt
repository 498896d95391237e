-- Loops along a list: `walk_end`, `walk-stop` and `walk-pass` for a walk from a place; `fold-turn` and `fold_end` for a fold. Assumes nothing.
use Prim.Native.Nat.{ℕ, zero, suc, pred, ◌+◌, ◌≤◌, ◌<◌}
use mathlib.Core.Path.{◌≡◌, refl, ap, ◌∙◌}
use mathlib.Core.List.{List, [], ◌∷◌, ◌++◌}
use native.Mathlib.Omega.{arith}
use native.Mathlib.Nat.{add-zero}
use native.Mathlib.Numerals.{add-one}
use lib.ListN.{length, drop, get_or, length-drop, drop_of_length-le}
use lib.Seq.{drop-cons, drop-drop}
use Rattle.base.specs.Walk.{Step, walk, fold}
use Rattle.base.specs.Walk.Step.{stop, pass}

module _ {A : Type 0} (f : ℕ → List ℕ → Step A) (end : ℕ → A) where
  skip : (at k : ℕ) (s : List ℕ) → k ≤ length s → walk f end at k s ≡ walk f end (at + k) 0 (drop k s)
  unfolding walk
  skip at zero s h = rw (add-zero at)
  skip at (suc k) [] h = absurd (omega arith)
  skip at (suc k) (x ∷ xs) h =
      let e : suc at + k ≡ at + suc k = omega arith in
      skip (suc at) k xs (omega arith) ∙ ap (λ (n : ℕ). walk f end n 0 (drop k xs)) e

  module _ (s : List ℕ) (i : ℕ) where
    pub walk_end : length s ≤ i → walk f end i 0 (drop i s) ≡ end i
    unfolding walk
    walk_end h = rw (drop_of_length-le s h)

    pub walk-stop : (a : A) → i < length s → f i (drop i s) ≡ stop a → walk f end i 0 (drop i s) ≡ a
    unfolding walk
    walk-stop a h e =
        let e' : f i (get_or s i 0 ∷ drop (suc i) s) ≡ stop a = rw (← drop-cons s i 0 h) e in
        rw (drop-cons s i 0 h, e', walk)

    pub walk-pass :
        (n : ℕ) → i < length s → f i (drop i s) ≡ pass n → 0 < n → i + n ≤ length s
        → walk f end i 0 (drop i s) ≡ walk f end (i + n) 0 (drop (i + n) s)
    unfolding walk
    walk-pass n h e pos le =
        let e' : f i (get_or s i 0 ∷ drop (suc i) s) ≡ pass n = rw (← drop-cons s i 0 h) e in
        let j : suc i + pred n ≡ i + n = omega arith in
        rw (drop-cons s i 0 h, e', walk)
        (skip (suc i) (pred n) (drop (suc i) s) (omega (arith, length-drop (suc i) s)) ∙ rw (drop-drop (pred n) (suc i) s, j))

module _ {A S : Type 0} (f : S → A → S) where
  pub fold-turn : (s : S) (l : List A) (i : ℕ) (d : A) {x : S} → i < length l → fold f s (drop i l) ≡ x → fold f (f s (get_or l i d)) (drop (i + 1) l) ≡ x
  unfolding fold
  fold-turn s l i d h e = rw (add-one i) (rw (drop-cons l i d h) at e)

  pub fold_end : (s : S) (l : List A) (i : ℕ) {x : S} → length l ≤ i → fold f s (drop i l) ≡ x → s ≡ x
  unfolding fold
  fold_end s l i h e = rw (drop_of_length-le l h) at e

  pub fold-append : (s : S) (l r : List A) → fold f s (l ++ r) ≡ fold f (fold f s l) r
  unfolding fold
  fold-append s [] r = refl
  fold-append s (x ∷ l) r = fold-append (f s x) l r
