-- Lines laid one behind the other: bytes in digits, a frame behind its head, the frames of a content in the form of their loop's invariant. Assumes nothing.
use Prim.Native.Nat.{ℕ, suc, ◌+◌, ◌-◌, ◌*◌, ◌/◌, ◌%◌, ◌<◌, ◌≤◌, min}
use mathlib.Core.Path.{◌≡◌, sym, ap, ◌∙◌}
use mathlib.Core.List.{List, [], ◌∷◌, ◌++◌}
use native.Mathlib.Omega.{arith}
use native.Mathlib.Decide.{dec_le}
use lib.ListN.{length, take, drop, get_or, set, length-take, length-drop, drop_of_length-le}
use lib.Seq.{sets, take_all, drop-drop}
use Rattle.base.specs.Numbers.{bytes_of}
use Rattle.base.proofs.Parts.{drop-turn, sets-append}
use Rattle.objtext.specs.Object.{hex_digit, hex, line, newline, content_frame, content_frames, frames_for, text_of}
use Rattle.objtext.specs.Reader.{line_length, frame_head_bytes, bytes_place}
use Rattle.objtext.proofs.Lines.{length-hex, length-line}

-- ── digits ──

pub hex-start : (s : List ℕ) (at : ℕ) (bs : List ℕ) → sets s (at + 2 * 0) (hex (drop 0 bs)) ≡ sets s at (hex bs)
hex-start s at bs = let z : at + 2 * 0 ≡ at = omega arith in rw z

pub hex-on : (s : List ℕ) (at : ℕ) (bs : List ℕ) (i b x y : ℕ) {z : List ℕ} → i < length bs → b ≡ get_or bs i 0 → x ≡ hex_digit (b / 16) → y ≡ hex_digit (b % 16)
    → sets s (at + 2 * i) (hex (drop i bs)) ≡ z → sets (set (set s (at + 2 * i) x) (at + 2 * i + 1) y) (at + 2 * (i + 1)) (hex (drop (i + 1) bs)) ≡ z
hex-on s at bs i b x y h e ex ey q =
    let p : at + 2 * (i + 1) ≡ suc (suc (at + 2 * i)) = omega arith in
    let p' : at + 2 * i + 1 ≡ suc (at + 2 * i) = omega arith in
    rw (p, p', ex, ey, e) (rw (drop-turn bs i 0 h) at q)

pub hex-end : (s : List ℕ) (at : ℕ) (bs : List ℕ) (i : ℕ) {z : List ℕ} → length bs ≤ i → sets s (at + 2 * i) (hex (drop i bs)) ≡ z → s ≡ z
hex-end s at bs i h q = rw (drop_of_length-le bs h) at q

-- ── lines ──

pub line-laid : (s t : List ℕ) (at : ℕ) (f : List ℕ) → t ≡ sets s at (hex f) → set t (at + 2 * length f) newline ≡ sets s at (line f)
line-laid s t at f e = rw (e, ← length-hex f) (sym (sets-append s at (hex f) (newline ∷ [])))

-- a frame's head, and its bytes behind it
pub frame-laid : (s t u : List ℕ) (at : ℕ) (k o : ℕ) (bs : List ℕ) → t ≡ sets s at (hex (0 ∷ k ∷ o / 256 % 256 ∷ o % 256 ∷ length bs ∷ [])) → u ≡ sets t (at + bytes_place) (line bs)
    → u ≡ sets s at (line (content_frame k o bs))
unfolding bytes_of
frame-laid s t u at k o bs e q = q ∙ rw e (sym (sets-append s at (hex (0 ∷ k ∷ o / 256 % 256 ∷ o % 256 ∷ length bs ∷ [])) (line bs)))

-- ── content ──

-- the frames of the content from frame m on
abbrev pub rest : ℕ → List ℕ → ℕ → List ℕ
rest k bs m = text_of (content_frames (frames_for (length bs) - m) k (16 * m) (drop (16 * m) bs))

-- the turn at frame m, whose bytes end at e
module _ (k : ℕ) (bs : List ℕ) (m : ℕ) (h : m < frames_for (length bs)) (e : ℕ) (l : e ≡ min (16 * m + 16) (length bs)) where
  abbrev part : List ℕ
  part = take (e - 16 * m) (drop (16 * m) bs)

  taken : length part ≡ e - 16 * m
  taken = omega (arith, length-take (e - 16 * m) (drop (16 * m) bs), length-drop (16 * m) bs)

  whole : part ≡ take 16 (drop (16 * m) bs)
  whole = go (dec_le (16 * m + 16) (length bs))
    where
      go : Dec (16 * m + 16 ≤ length bs) → part ≡ take 16 (drop (16 * m) bs)
      go (yes g) = let z : e - 16 * m ≡ 16 = omega arith in rw z
      go (no g) =
          let d = length-drop (16 * m) bs in
          take_all (e - 16 * m) (drop (16 * m) bs) (omega arith) ∙ sym (take_all 16 (drop (16 * m) bs) (omega arith))

  first : rest k bs m ≡ line (content_frame k (16 * m) part) ++ rest k bs (m + 1)
  first =
      let w : frames_for (length bs) - m ≡ suc (frames_for (length bs) - (m + 1)) = omega arith in
      let o : 16 * m + 16 ≡ 16 * (m + 1) = omega arith in
      rw (w, whole, drop-drop 16 (16 * m) bs, o)

  pub content-on : (s t : List ℕ) (at : ℕ) {z : List ℕ} → t ≡ sets s at (line (content_frame k (16 * m) part)) → sets s at (rest k bs m) ≡ z
      → sets t (at + (2 * (e - 16 * m) + line_length frame_head_bytes)) (rest k bs (m + 1)) ≡ z
  unfolding bytes_of
  content-on s t at q g =
      let n : length (line (content_frame k (16 * m) part)) ≡ 2 * (e - 16 * m) + line_length frame_head_bytes = omega (arith, length-line (content_frame k (16 * m) part), taken) in
      rw (q, ← n) (sym (sets-append s at (line (content_frame k (16 * m) part)) (rest k bs (m + 1))) ∙ (ap (λ (u : List ℕ). sets s at u) (sym first) ∙ g))

pub content-start : (s : List ℕ) (at k : ℕ) (bs : List ℕ) → sets s at (rest k bs 0) ≡ sets s at (text_of (content_frames (frames_for (length bs)) k 0 bs))
content-start s at k bs = let z : frames_for (length bs) - 0 ≡ frames_for (length bs) = omega arith in rw z

pub content-end : (s : List ℕ) (at k : ℕ) (bs : List ℕ) (m : ℕ) {z : List ℕ} → frames_for (length bs) ≤ m → sets s at (rest k bs m) ≡ z → s ≡ z
content-end s at k bs m h q = let w : frames_for (length bs) - m ≡ 0 = omega arith in rw w at q
