-- Segments laid one behind the other make the object's text, whose length is told by the lengths of the contents. Assumes nothing.
use Prim.Native.Nat.{ℕ, zero, suc, ◌+◌, ◌*◌, ◌≤◌}
use mathlib.Core.Path.{◌≡◌, refl, sym, ap, ◌∙◌}
use mathlib.Core.List.{List, [], ◌∷◌, ◌++◌, append_assoc, append-nil}
use native.Mathlib.Omega.{arith}
use lib.ListN.{length, drop, length-append}
use lib.Seq.{sets, sets-eq}
use Rattle.base.specs.Numbers.{bytes_of}
use Rattle.base.proofs.Parts.{sets-append}
use Rattle.objtext.specs.Object.{Segment, program, cells, line, head_frame, content_frames, frames_for, segment_frames, object_frames, text_of, object_text}
use Rattle.objtext.proofs.Lines.{length-line}
use Rattle.objtext.proofs.Written.{text-append, length-frames}
use Rattle.frames.specs.Frames.{later_data, frames_from, object_of, program_length, data_length, later_length, length_for}

-- ── segments ──

abbrev content : ℕ → List ℕ → List ℕ
content k bs = text_of (content_frames (frames_for (length bs)) k 0 bs)

pub segment-laid : (s t u : List ℕ) (at k : ℕ) (head bs : List ℕ) → t ≡ sets s at (line head) → u ≡ sets t (at + 2 * length head + 1) (content k bs) → u ≡ sets s at (line head ++ content k bs)
segment-laid s t u at k head bs e q =
    let l : at + 2 * length head + 1 ≡ at + length (line head) = omega (arith, length-line head) in
    q ∙ rw (e, l) (sym (sets-append s at (line head) (content k bs)))

length-program : (k : ℕ) (bs : List ℕ) → length (text_of (segment_frames k (program bs))) ≡ program_length (length bs)
unfolding bytes_of
length-program k bs =
    omega (arith, length-append (line (head_frame k (program bs))) (content k bs), length-line (head_frame k (program bs)), length-frames k 0 bs)

length-data : (k : ℕ) (bs : List ℕ) (from to : ℕ) → length (text_of (segment_frames k (cells bs from to))) ≡ data_length (length bs)
unfolding bytes_of
length-data k bs from to =
    omega (arith, length-append (line (head_frame k (cells bs from to))) (content k bs), length-line (head_frame k (cells bs from to)), length-frames k 0 bs)

-- ── one behind the other ──

pub then-laid : (s t u : List ℕ) (at n : ℕ) (a b : List ℕ) → length a ≡ n → t ≡ sets s at a → u ≡ sets t (at + n) b → u ≡ sets s at (a ++ b)
then-laid s t u at n a b l e q = q ∙ rw (e, ← l) (sym (sets-append s at a b))

segment-then : (k : ℕ) (g : Segment) (fs : List (List ℕ)) → text_of (segment_frames k g ++ fs) ≡ text_of (segment_frames k g) ++ text_of fs
segment-then k g fs = text-append (segment_frames k g) fs

-- ── the segments of base declarations ──

module _ (second third : List ℕ) where
  abbrev laid : ℕ → List ℕ
  laid n = text_of (frames_from 2 (later_data n second third))

  abbrev data_text : ℕ → List ℕ → List ℕ
  data_text k bs = text_of (segment_frames k (cells bs 0 (length bs)))

  one-text : laid 1 ≡ data_text 2 second
  one-text = segment-then 2 (cells second 0 (length second)) [] ∙ append-nil (data_text 2 second)

  two-text : laid 2 ≡ data_text 2 second ++ data_text 3 third
  two-text =
      segment-then 2 (cells second 0 (length second)) _
      ∙ ap (λ (t : List ℕ). data_text 2 second ++ t) (segment-then 3 (cells third 0 (length third)) [] ∙ append-nil (data_text 3 third))

  pub none-laid : (s : List ℕ) (at bases : ℕ) → bases ≡ 0 → s ≡ sets s at (laid bases)
  none-laid s at bases e = rw e

  pub one-laid : (s t : List ℕ) (at bases : ℕ) → bases ≡ 1 → t ≡ sets s at (data_text 2 second) → t ≡ sets s at (laid bases)
  one-laid s t at bases e q = q ∙ rw (e, one-text)

  more : (n : ℕ) → (n ≡ 0 → ⊥) → (n ≡ 1 → ⊥) → (m : ℕ) × (n ≡ suc (suc m))
  more zero a b = absurd (a refl)
  more (suc zero) a b = absurd (b refl)
  more (suc (suc m)) a b = (m, refl)

  pub two-laid : (s t u : List ℕ) (at bases : ℕ) → (bases ≡ 0 → ⊥) → (bases ≡ 1 → ⊥) → t ≡ sets s at (data_text 2 second)
      → u ≡ sets t (at + data_length (length second)) (data_text 3 third) → u ≡ sets s at (laid bases)
  two-laid s t u at bases a b e q =
      then-laid s t u at (data_length (length second)) (data_text 2 second) (data_text 3 third) (length-data 2 second 0 (length second)) e q
      ∙ rw (more bases a b).1 (ap (λ (x : List ℕ). sets s at x) (sym two-text))

  pub length-later : (bases : ℕ) → length (laid bases) ≡ later_length bases (length second) (length third)
  length-later zero = refl
  length-later (suc zero) = ap length one-text ∙ length-data 2 second 0 (length second)
  length-later (suc (suc n)) =
      ap length two-text
      ∙ omega (arith, length-append (data_text 2 second) (data_text 3 third), length-data 2 second 0 (length second), length-data 3 third 0 (length third))

pub none-length : (bases second third : ℕ) → bases ≡ 0 → later_length bases second third ≡ 0
none-length bases second third e = rw e

pub one-length : (bases second third : ℕ) → bases ≡ 1 → later_length bases second third ≡ data_length second
one-length bases second third e = rw e

pub two-length : (bases second third : ℕ) → (bases ≡ 0 → ⊥) → (bases ≡ 1 → ⊥) → later_length bases second third ≡ data_length second + data_length third
two-length zero second third a b = absurd (a refl)
two-length (suc zero) second third a b = absurd (b refl)
two-length (suc (suc n)) second third a b = refl

pub some-length : (bases second third : ℕ) → (bases ≡ 0 → ⊥) → data_length second ≤ later_length bases second third
some-length zero second third a = absurd (a refl)
some-length (suc zero) second third a = omega arith
some-length (suc (suc n)) second third a = omega arith

-- ── the whole text ──

from_then : (k : ℕ) (gs : List Segment) → text_of (object_frames k gs) ≡ text_of (frames_from k gs) ++ line (255 ∷ [])
from_then k [] = refl
from_then k (g ∷ gs) =
    segment-then k g (object_frames (suc k) gs)
    ∙ ap (λ (t : List ℕ). text_of (segment_frames k g) ++ t) (from_then (suc k) gs)
    ∙ sym (ap (λ (t : List ℕ). t ++ line (255 ∷ [])) (segment-then k g (frames_from (suc k) gs)) ∙ append_assoc (text_of (segment_frames k g)) (text_of (frames_from (suc k) gs)) (line (255 ∷ [])))

module _ (code first : List ℕ) (to bases : ℕ) (second third : List ℕ) where
  abbrev code_text : List ℕ
  code_text = text_of (segment_frames 0 (program code))

  abbrev first_text : List ℕ
  first_text = text_of (segment_frames 1 (cells first 16 to))

  abbrev later_text : List ℕ
  later_text = text_of (frames_from 2 (later_data bases second third))

  whole : object_text (object_of code first to bases second third) ≡ code_text ++ (first_text ++ (later_text ++ line (255 ∷ [])))
  unfolding object_text object_of
  whole =
      segment-then 0 (program code) _
      ∙ ap (λ (t : List ℕ). code_text ++ t) (segment-then 1 (cells first 16 to) _ ∙ ap (λ (t : List ℕ). first_text ++ t) (from_then 2 (later_data bases second third)))

  abbrev size : ℕ
  size = length_for (length code) (length first) bases (length second) (length third)

  -- "length needed"
  pub text-length : length (object_text (object_of code first to bases second third)) ≡ size
  unfolding length_for
  text-length =
      ap length whole
      ∙ omega (
        arith,
        length-append code_text (first_text ++ (later_text ++ line (255 ∷ []))),
        length-append first_text (later_text ++ line (255 ∷ [])),
        length-append later_text (line (255 ∷ [])),
        length-program 0 code,
        length-data 1 first 16 to,
        length-later second third bases,
      )

  pub object-laid : (s t u v w : List ℕ) (b c d : ℕ) → b ≡ 0 + program_length (length code) → c ≡ b + data_length (length first) → d ≡ c + later_length bases (length second) (length third)
      → t ≡ sets s 0 code_text → u ≡ sets t b first_text → v ≡ sets u c later_text → w ≡ sets v d (line (255 ∷ []))
      → w ≡ sets s 0 (object_text (object_of code first to bases second third))
  object-laid s t u v w b c d eb ec ed et eu ev ew =
      let x = then-laid u v w c (later_length bases (length second) (length third)) later_text (line (255 ∷ [])) (length-later second third bases) ev (rw ed at ew) in
      let y = then-laid t u w b (data_length (length first)) first_text (later_text ++ line (255 ∷ [])) (length-data 1 first 16 to) eu (rw ec at x) in
      let z = then-laid s t w 0 (program_length (length code)) code_text (first_text ++ (later_text ++ line (255 ∷ []))) (length-program 0 code) et (rw eb at y) in
      z ∙ ap (λ (r : List ℕ). sets s 0 r) (sym whole)

-- what is laid at the front of a buffer stands before the buffer's later bytes
pub laid-front : (l vs : List ℕ) → length vs ≤ length l → sets l 0 vs ≡ vs ++ drop (length vs) l
laid-front l vs h = let z : 0 + length vs ≡ length vs = omega arith in sets-eq vs l 0 (omega arith) ∙ rw z
