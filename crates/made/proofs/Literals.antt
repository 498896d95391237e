-- Literals that a loop lays as words, one after the other: a turn and the end, as the invariant has them. Assumes nothing.
use mathlib.Core.Path.{◌≡◌, sym, ap, ◌∙◌}
use mathlib.Core.List.{List}
use Prim.Native.Nat.{ℕ, ◌+◌, ◌*◌, ◌≤◌, ◌<◌}
use native.Mathlib.Omega.{arith}
use lib.ListN.{length, drop, get_or, drop_of_length-le}
use lib.Seq.{sets}
use Rattle.base.specs.Numbers.{bytes_of, stored}
use Rattle.base.proofs.Numbers.{length-bytes_of}
use Rattle.base.proofs.Parts.{drop-turn, sets-append}
use Rattle.translation.specs.Image.{words}

module _ (vs image : List ℕ) (start i : ℕ) where
  pub words-start : sets image (start + 4 * 0) (words (drop 0 vs)) ≡ sets image start (words vs)
  words-start = let e : start + 4 * 0 ≡ start = omega arith in rw e

  pub words-turn : (v : ℕ) {z : List ℕ} → i < length vs → v ≡ get_or vs i 0 → sets image (start + 4 * i) (words (drop i vs)) ≡ z
      → sets (stored image (start + 4 * i) 4 v) (start + 4 * (i + 1)) (words (drop (i + 1) vs)) ≡ z
  unfolding words
  words-turn v h e q =
      let bs = bytes_of 4 (get_or vs i 0) in
      let next : start + 4 * (i + 1) ≡ start + 4 * i + length bs = omega (arith, length-bytes_of 4 (get_or vs i 0)) in
      rw (e, next)
      (sym (sets-append image (start + 4 * i) bs (words (drop (i + 1) vs)))
      ∙ (sym (ap (λ (ds : List ℕ). sets image (start + 4 * i) (words ds)) (drop-turn vs i 0 h)) ∙ q))

  pub words-end : {z : List ℕ} → length vs ≤ i → sets image (start + 4 * i) (words (drop i vs)) ≡ z → image ≡ z
  unfolding words
  words-end h q = sym (ap (λ (ds : List ℕ). sets image (start + 4 * i) (words ds)) (drop_of_length-le vs h)) ∙ q
