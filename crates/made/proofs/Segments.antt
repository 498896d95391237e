-- The segments of a text, cut from images of 4,096 bytes.
use mathlib.Core.Path.{◌≡◌, refl, sym, ap, ap₂, ◌∙◌}
use mathlib.Core.List.{List, [], ◌∷◌, ◌++◌}
use Prim.Native.Nat.{ℕ, zero, suc, ◌+◌, ◌%◌, ◌<◌, ◌≤◌}
use native.Mathlib.Omega.{arith}
use lib.ListN.{length, take, drop, replicate, length-replicate}
use lib.Seq.{sets, sets-eq}
use Rattle.base.specs.Lists.{All}
use Rattle.objtext.specs.Object.{Segment, program, cells}
use Rattle.translation.specs.Instructions.{Instruction}
use Rattle.translation.specs.Layout.{Layout, segment_limit, cells_end}
use Rattle.translation.specs.Bytes.{encode_all}
use Rattle.translation.specs.Image.{fill, words, end_of_first, first_data, data_of, data_from, segments}
use Rattle.translation.proofs.Images.{Fitting, fill-length, end-first}
use Rattle.layout.proofs.Images.{take-sets, cut-fill}
use Rattle.code.specs.Coding.{bytes_in}
use Rattle.frames.specs.Frames.{later_data, object_of}
use Rattle.made.specs.Making.{zeros}

-- ── the program ──

bytes-are : (bs : List ℕ) → All (λ (b : ℕ). b < 256) bs → bytes_in bs ≡ bs
bytes-are [] h = refl
bytes-are (b ∷ bs) h = let k = h.0 in let e : b % 256 ≡ b = omega arith in ap₂ (λ (x : ℕ) (l : List ℕ). x ∷ l) e (bytes-are bs h.1)

take-front : (vs l : List ℕ) → take (length vs) (vs ++ l) ≡ vs
take-front [] l = refl
take-front (v ∷ vs) l = ap (λ (r : List ℕ). v ∷ r) (take-front vs l)

-- what is laid from the start of an image, cut to its length
pub program-cut : (bs : List ℕ) (n : ℕ) → length bs ≡ n → n ≤ segment_limit → All (λ (b : ℕ). b < 256) bs → take n (sets zeros 0 (bytes_in bs)) ≡ bs
program-cut bs n e h b =
    let l : length zeros ≡ segment_limit = length-replicate {A = ℕ} segment_limit 0 in
    rw (bytes-are bs b) (rw (sets-eq bs zeros 0 (omega arith)) (rw (← e) (take-front bs (drop (0 + length bs) zeros))))

-- ── the data ──

module _ (y : Layout) where
  abbrev pub first_bytes : List ℕ
  first_bytes = sets (fill 1 y.placed (replicate (end_of_first y) 0)) y.literals_at (words y.literals)

  abbrev pub later_bytes : ℕ → List ℕ
  later_bytes k = fill k y.placed (replicate (cells_end y k) 0)

  pub first-cut : Fitting y → take (end_of_first y) (sets (fill 1 y.placed zeros) y.literals_at (words y.literals)) ≡ first_bytes
  first-cut h =
      take-sets (end_of_first y) (fill 1 y.placed zeros) y.literals_at (words y.literals)
      ∙ ap (λ (l : List ℕ). sets l y.literals_at (words y.literals)) (cut-fill 1 (end_of_first y) segment_limit y.placed (end-first y h).1)

  pub later-cut : (k : ℕ) → cells_end y k ≤ segment_limit → take (cells_end y k) (fill k y.placed zeros) ≡ later_bytes k
  later-cut k h = cut-fill k (cells_end y k) segment_limit y.placed h

  later-length : (k : ℕ) → length (later_bytes k) ≡ cells_end y k
  later-length k = fill-length k y.placed (replicate (cells_end y k) 0) ∙ length-replicate {A = ℕ} (cells_end y k) 0

  data_is : (k : ℕ) → data_of y k ≡ cells (later_bytes k) 0 (length (later_bytes k))
  unfolding data_of
  data_is k = ap (λ (e : ℕ). cells (later_bytes k) 0 e) (sym (later-length k))

  later-are : (n : ℕ) → n ≤ 2 → data_from y 2 n ≡ later_data n (later_bytes 2) (later_bytes 3)
  later-are zero h = refl
  later-are (suc zero) h = ap (λ (g : Segment). g ∷ []) (data_is 2)
  later-are (suc (suc zero)) h = ap₂ (λ (g k : Segment). g ∷ k ∷ []) (data_is 2) (data_is 3)
  later-are (suc (suc (suc n))) h = absurd (omega arith)

  -- n: how many base declarations there are
  pub segments-are : (n : ℕ) (is : List Instruction) → n ≤ 2 → segments n y is ≡ object_of (encode_all y is) first_bytes (cells_end y 1) n (later_bytes 2) (later_bytes 3)
  unfolding segments first_data object_of
  segments-are n is h = ap (λ (gs : List Segment). program (encode_all y is) ∷ cells first_bytes 16 (cells_end y 1) ∷ gs) (later-are n h)
