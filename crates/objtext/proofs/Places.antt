-- The reader at places of a text: what stands at the front of `drop i t`, and the turns of the loops in the form of their invariants. Assumes nothing.
use Prim.Native.Nat.{ℕ, zero, suc, ◌+◌, ◌-◌, ◌*◌, ◌/◌, ◌%◌, ◌<◌, ◌≤◌, min}
use mathlib.Core.Path.{◌≡◌, refl, sym, ap, ◌∙◌, subst}
use mathlib.Core.Bool.{Bool, true, false, ◌&&◌}
use mathlib.Core.List.{List, ◌++◌}
use native.Mathlib.Omega.{arith}
use native.Mathlib.Decide.{dec_le}
use lib.Dec.{eqb, leb, ltb, T}
use lib.ListN.{length, drop, get_or, set, length-append, drop_of_length-le, get_or-append}
use lib.Seq.{drop-drop, get_or-drop, get_or-append-add, sets}
use borrow.Author.Tests.{lt-ltb, le-leb, lt-leb}
use Rattle.std.specs.Prelude as P
use Rattle.base.proofs.Tests.{cases}
use Rattle.base.proofs.Parts.{drop-turn}
use Rattle.base.specs.Choose.{choose}
use Rattle.objtext.specs.Object.{frames_for, newline, program_limit, data_limit}
use Rattle.objtext.specs.Reader.{digit_of, join_of, byte_of, front_bytes, two_of, is_line, content_length, is_content_frame, is_content, content_at, head_length, head_from, head_to, is_program_head, is_data_head, also, is_program, after_program, is_data, after_data, frame_line, data_line, program_line, program_head_bytes, data_head_bytes, frame_head_bytes, bytes_place}

-- ── bytes ──

pub byte-place : (t : List ℕ) (i : ℕ) → join_of (digit_of (get_or t i 0)) (digit_of (get_or t (i + 1) 0)) ≡ byte_of (drop i t)
unfolding byte_of
byte-place t i =
    let z : i + 0 ≡ i = omega arith in
    rw (get_or-drop i t 0 0, get_or-drop i t 1 0, z)

-- no digit stands first, or second; or both are digits
pub no-high : (t : List ℕ) (i : ℕ) → digit_of (get_or t i 0) ≡ 16 → byte_of (drop i t) ≡ 256
no-high t i h = sym (byte-place t i) ∙ rw h

module _ (t : List ℕ) (i high : ℕ) (h : (digit_of (get_or t i 0) ≡ high) × (high < 16)) where
  joined : (low : ℕ) → digit_of (get_or t (i + 1) 0) ≡ low → byte_of (drop i t) ≡ choose (ltb low 16) (high * 16 + low) 256
  joined low e = sym (byte-place t i) ∙ rw (h.0, e, lt-ltb high 16 h.1)

  pub no-low : digit_of (get_or t (i + 1) 0) ≡ 16 → byte_of (drop i t) ≡ 256
  no-low l = joined 16 l

  pub both_digits : (low : ℕ) → (digit_of (get_or t (i + 1) 0) ≡ low) × (low < 16) → (byte_of (drop i t) ≡ high * 16 + low) × (high * 16 + low < 256)
  both_digits low l = let k = h.1 in let m = l.1 in (joined low l.0 ∙ rw (lt-ltb low 16 m), omega arith)

pub is-byte : (o : P.Option ℕ) (n : ℕ) → P.is_some o ≡ true → P.MatchOption o (n ≡ 256) (λ b. (n ≡ b) × (b < 256)) → n < 256
is-byte P.None n h m = absurd (subst T (sym h) tt)
is-byte (P.Some b) n h m = let l = m.1 in omega (arith, m.0)

pub two-place : (t : List ℕ) (i : ℕ) → byte_of (drop i t) * 256 + byte_of (drop (i + 2) t) ≡ two_of (drop i t)
unfolding two_of
two-place t i = rw (drop-drop 2 i t)

-- ── lines ──

-- the turn at byte j of a line of n bytes
module _ (t : List ℕ) (i n j : ℕ) (h : j < n) where
  left : is_line (n - j) (drop (i + 2 * j) t) ≡ (ltb (byte_of (drop (i + 2 * j) t)) 256 && is_line (n - (j + 1)) (drop (i + 2 * (j + 1)) t))
  left =
      let w : n - j ≡ suc (n - (j + 1)) = omega arith in
      let p : i + 2 * j + 2 ≡ i + 2 * (j + 1) = omega arith in
      rw (w, drop-drop 2 (i + 2 * j) t, p)

  pub line_on : byte_of (drop (i + 2 * j) t) < 256 → {x : Bool} → is_line (n - j) (drop (i + 2 * j) t) ≡ x → is_line (n - (j + 1)) (drop (i + 2 * (j + 1)) t) ≡ x
  line_on b e = rw (left, lt-ltb (byte_of (drop (i + 2 * j) t)) 256 b) at e

  pub line-stop : byte_of (drop (i + 2 * j) t) ≡ 256 → {x : Bool} → is_line (n - j) (drop (i + 2 * j) t) ≡ x → false ≡ x
  line-stop b e = rw (left, b) at e

pub line-end : (t : List ℕ) (i n j : ℕ) → j ≡ n → {x : Bool} → is_line (n - j) (drop (i + 2 * j) t) ≡ x → eqb (get_or t (i + 2 * n) 0) newline ≡ x
line-end t i n j h e =
    let w : n - j ≡ 0 = omega arith in
    let p : i + 2 * j + 0 ≡ i + 2 * n = omega arith in
    rw (w, get_or-drop (i + 2 * j) t 0 0, p) at e

-- ── frames ──

-- the turn at frame m of the frames of n bytes
module _ (t : List ℕ) (i k n m : ℕ) (h : m < frames_for n) where
  left_frames : is_content (frames_for n - m) k (16 * m) (n - 16 * m) (drop (i + frame_line * m) t)
      ≡ (is_content_frame k (16 * m) (min 16 (n - 16 * m)) (drop (i + frame_line * m) t) && is_content (frames_for n - (m + 1)) k (16 * (m + 1)) (n - 16 * (m + 1)) (drop (i + frame_line * (m + 1)) t))
  left_frames =
      let w : frames_for n - m ≡ suc (frames_for n - (m + 1)) = omega arith in
      let o : 16 * m + 16 ≡ 16 * (m + 1) = omega arith in
      let l : n - 16 * m - 16 ≡ n - 16 * (m + 1) = omega arith in
      let p : i + frame_line * m + frame_line ≡ i + frame_line * (m + 1) = omega arith in
      rw (w, drop-drop frame_line (i + frame_line * m) t, o, l, p)

  pub frame_on : is_content_frame k (16 * m) (min 16 (n - 16 * m)) (drop (i + frame_line * m) t) ≡ true
      → {x : Bool} → is_content (frames_for n - m) k (16 * m) (n - 16 * m) (drop (i + frame_line * m) t) ≡ x
      → is_content (frames_for n - (m + 1)) k (16 * (m + 1)) (n - 16 * (m + 1)) (drop (i + frame_line * (m + 1)) t) ≡ x
  frame_on b e = rw (left_frames, b) at e

  pub frame-stop : is_content_frame k (16 * m) (min 16 (n - 16 * m)) (drop (i + frame_line * m) t) ≡ false
      → {x : Bool} → is_content (frames_for n - m) k (16 * m) (n - 16 * m) (drop (i + frame_line * m) t) ≡ x → false ≡ x
  frame-stop b e = rw (left_frames, b) at e

pub frame-end : (t : List ℕ) (i k n m : ℕ) → m ≡ frames_for n → {x : Bool} → is_content (frames_for n - m) k (16 * m) (n - 16 * m) (drop (i + frame_line * m) t) ≡ x → true ≡ x
frame-end t i k n m h e = let w : frames_for n - m ≡ 0 = omega arith in rw w at e

pub frame-place : (t : List ℕ) (i k o n : ℕ) → is_line (frame_head_bytes + n) (drop i t) ≡ true
    → (eqb (byte_of (drop i t)) 0 && eqb (byte_of (drop (i + 2) t)) k && eqb (two_of (drop (i + 4) t)) o && eqb (byte_of (drop (i + 8) t)) n) ≡ is_content_frame k o n (drop i t)
unfolding is_content_frame
frame-place t i k o n h = rw (h, drop-drop 2 i t, drop-drop 4 i t, drop-drop 8 i t)

pub no-frame : (t : List ℕ) (i k o n : ℕ) → is_line (frame_head_bytes + n) (drop i t) ≡ false → false ≡ is_content_frame k o n (drop i t)
unfolding is_content_frame
no-frame t i k o n h = rw h

-- ── content ──

front_at : (n : ℕ) (s : List ℕ) (j : ℕ) → j < n → get_or (front_bytes n s) j 0 ≡ byte_of (drop (2 * j) s) % 256
front_at zero s j h = absurd (omega arith)
front_at (suc n) s zero h = refl
front_at (suc n) s (suc j) h =
    let e : 2 + 2 * j ≡ 2 * suc j = omega arith in
    front_at n (drop 2 s) j (omega arith) ∙ ap (λ (l : List ℕ). byte_of l % 256) (drop-drop (2 * j) 2 s ∙ ap (λ (i : ℕ). drop i s) e)

length_front : (n : ℕ) (s : List ℕ) → length (front_bytes n s) ≡ n
length_front zero s = refl
length_front (suc n) s = ap suc (length_front n (drop 2 s))

-- the place of byte j behind the place of its frames
abbrev pub byte_place : ℕ → ℕ
byte_place j = j / 16 * frame_line + bytes_place + j % 16 * 2

content-length : (m n : ℕ) (s : List ℕ) → n ≤ 16 * m → length (content_at m n s) ≡ n
content-length zero n s h = omega arith
content-length (suc m) n s h =
    let a = length-append (front_bytes (min 16 n) (drop bytes_place s)) (content_at m (n - 16) (drop frame_line s)) in
    let f = length_front (min 16 n) (drop bytes_place s) in
    let r = content-length m (n - 16) (drop frame_line s) (omega arith) in
    omega arith

content-at : (m n : ℕ) (s : List ℕ) (j : ℕ) → n ≤ 16 * m → j < n → get_or (content_at m n s) j 0 ≡ byte_of (drop (byte_place j) s) % 256
content-at zero n s j h l = absurd (omega arith)
content-at (suc m) n s j h l = go (dec_le 16 j) (content-at m (n - 16) (drop frame_line s) (j - 16))
  where
    front : j < 16 → get_or (front_bytes (min 16 n) (drop bytes_place s) ++ content_at m (n - 16) (drop frame_line s)) j 0 ≡ byte_of (drop (byte_place j) s) % 256
    front g =
        let e : bytes_place + 2 * j ≡ byte_place j = omega arith in
        get_or-append (front_bytes (min 16 n) (drop bytes_place s)) (content_at m (n - 16) (drop frame_line s)) 0 j (omega (arith, length_front (min 16 n) (drop bytes_place s)))
        ∙ front_at (min 16 n) (drop bytes_place s) j (omega arith)
        ∙ ap (λ (u : List ℕ). byte_of u % 256) (drop-drop (2 * j) bytes_place s ∙ ap (λ (i : ℕ). drop i s) e)

    behind : 16 ≤ j → get_or (content_at m (n - 16) (drop frame_line s)) (j - 16) 0 ≡ byte_of (drop (byte_place (j - 16)) (drop frame_line s)) % 256
        → get_or (front_bytes (min 16 n) (drop bytes_place s) ++ content_at m (n - 16) (drop frame_line s)) j 0 ≡ byte_of (drop (byte_place j) s) % 256
    behind g ih =
        let p : length (front_bytes (min 16 n) (drop bytes_place s)) + (j - 16) ≡ j = omega (arith, length_front (min 16 n) (drop bytes_place s)) in
        let e : frame_line + byte_place (j - 16) ≡ byte_place j = omega arith in
        subst (λ (i : ℕ). get_or (front_bytes (min 16 n) (drop bytes_place s) ++ content_at m (n - 16) (drop frame_line s)) i 0 ≡ byte_of (drop (byte_place j) s) % 256) p
        (get_or-append-add (front_bytes (min 16 n) (drop bytes_place s)) (content_at m (n - 16) (drop frame_line s)) (j - 16) 0
        ∙ ih ∙ ap (λ (u : List ℕ). byte_of u % 256) (drop-drop (byte_place (j - 16)) frame_line s ∙ ap (λ (i : ℕ). drop i s) e))

    go : Dec (16 ≤ j) → (n - 16 ≤ 16 * m → j - 16 < n - 16 → get_or (content_at m (n - 16) (drop frame_line s)) (j - 16) 0 ≡ byte_of (drop (byte_place (j - 16)) (drop frame_line s)) % 256)
        → get_or (front_bytes (min 16 n) (drop bytes_place s) ++ content_at m (n - 16) (drop frame_line s)) j 0 ≡ byte_of (drop (byte_place j) s) % 256
    go (yes g) ih = behind g (ih (omega arith) (omega arith))
    go (no g) ih = front (omega arith)

-- laying the bytes one by one
module _ (t : List ℕ) (i n : ℕ) where
  pub length-content : length (content_at (frames_for n) n (drop i t)) ≡ n
  length-content = content-length (frames_for n) n (drop i t) (omega arith)

  pub fill_on : (s : List ℕ) (at j b : ℕ) {x : List ℕ} → j < n → b ≡ byte_of (drop (i + j / 16 * frame_line + bytes_place + j % 16 * 2) t)
      → sets s (at + j) (drop j (content_at (frames_for n) n (drop i t))) ≡ x → sets (set s (at + j) (b % 256)) (at + (j + 1)) (drop (j + 1) (content_at (frames_for n) n (drop i t))) ≡ x
  fill_on s at j b h e q =
      let c = content_at (frames_for n) n (drop i t) in
      let p : at + (j + 1) ≡ suc (at + j) = omega arith in
      let w : i + byte_place j ≡ i + j / 16 * frame_line + bytes_place + j % 16 * 2 = omega arith in
      let v : get_or c j 0 ≡ b % 256
      = content-at (frames_for n) n (drop i t) j (omega arith) h ∙ ap (λ (u : List ℕ). byte_of u % 256) (drop-drop (byte_place j) i t ∙ ap (λ (z : ℕ). drop z t) w) ∙ ap (λ (y : ℕ). y % 256) (sym e) in
      rw (p, ← v) (rw (drop-turn c j 0 (omega (arith, length-content))) at q)

  pub fill_end : (s : List ℕ) (at j : ℕ) {x : List ℕ} → n ≤ j → sets s (at + j) (drop j (content_at (frames_for n) n (drop i t))) ≡ x → s ≡ x
  fill_end s at j h q = rw (drop_of_length-le (content_at (frames_for n) n (drop i t)) {i = j} (omega (arith, length-content))) at q

  pub fill_start : (s : List ℕ) (at : ℕ) → sets s (at + 0) (drop 0 (content_at (frames_for n) n (drop i t))) ≡ sets s at (content_at (frames_for n) n (drop i t))
  fill_start s at = let z : at + 0 ≡ at = omega arith in rw z

-- ── segments ──

-- the numbers of a head
pub length-place : (t : List ℕ) (i : ℕ) → two_of (drop (i + 4) t) ≡ head_length (drop i t)
length-place t i = ap two_of (sym (drop-drop 4 i t))

pub from_place : (t : List ℕ) (i : ℕ) → two_of (drop (i + 8) t) ≡ head_from (drop i t)
from_place t i = ap two_of (sym (drop-drop 8 i t))

pub to-place : (t : List ℕ) (i : ℕ) → two_of (drop (i + 12) t) ≡ head_to (drop i t)
to-place t i = ap two_of (sym (drop-drop 12 i t))

-- a head is read where its line, its numbers and its length are right
too_long : (b : Bool) (n l : ℕ) (next : Unit {0} → Bool) → l < n → false ≡ also (b && leb n l) next
too_long true n l next h = rw (lt-leb n l h)
too_long false n l next h = refl

module _ (t : List ℕ) (i k : ℕ) where
  abbrev s : List ℕ
  s = drop i t

  -- the content behind h characters
  abbrev content : ℕ → Unit {0} → Bool
  content h u = is_content (frames_for (head_length s)) k 0 (head_length s) (drop h s)

  content-place : (h : ℕ) → is_content (frames_for (head_length s)) k 0 (head_length s) (drop (i + h) t) ≡ content h tt
  content-place h = ap (λ (l : List ℕ). is_content (frames_for (head_length s)) k 0 (head_length s) l) (sym (drop-drop h i t))

  abbrev pub program_head : Bool
  program_head = is_line program_head_bytes s && eqb (byte_of s) 1 && eqb (byte_of (drop (i + 2) t)) k

  program-by : {b : Bool} → program_head ≡ b → is_program_head k s ≡ (b && leb (head_length s) program_limit)
  program-by e =
      ap (λ (l : List ℕ). is_line program_head_bytes s && eqb (byte_of s) 1 && eqb (byte_of l) k && leb (head_length s) program_limit) (drop-drop 2 i t)
      ∙ ap (λ (x : Bool). x && leb (head_length s) program_limit) e

  pub long-program : program_limit < head_length s → false ≡ is_program k s
  unfolding is_program
  long-program h = too_long program_head (head_length s) program_limit (content program_line) h ∙ sym (ap (λ (x : Bool). also x (content program_line)) (program-by refl))

  pub no_program : program_head ≡ false → false ≡ is_program k s
  unfolding is_program
  no_program h = sym (ap (λ (x : Bool). also x (content program_line)) (program-by h))

  pub program-place : program_head ≡ true → head_length s ≤ program_limit → is_content (frames_for (head_length s)) k 0 (head_length s) (drop (i + program_line) t) ≡ is_program k s
  unfolding is_program
  program-place h l = content-place program_line ∙ sym (ap (λ (x : Bool). also x (content program_line)) (program-by h ∙ le-leb (head_length s) program_limit l))

  abbrev pub data_head : Bool
  data_head =
      is_line data_head_bytes s && eqb (byte_of s) 2 && eqb (byte_of (drop (i + 2) t)) k
      && leb (two_of (drop (i + 8) t)) (two_of (drop (i + 12) t)) && leb (two_of (drop (i + 12) t)) (two_of (drop (i + 4) t))

  data-by : {b : Bool} → data_head ≡ b → is_data_head k s ≡ (b && leb (head_length s) data_limit)
  data-by e =
      ap (λ (l : List ℕ).
      is_line data_head_bytes s && eqb (byte_of s) 2 && eqb (byte_of l) k && leb (head_from s) (head_to s) && leb (head_to s) (head_length s) && leb (head_length s) data_limit)
      (drop-drop 2 i t)
      ∙ (λ j.
      is_line data_head_bytes s && eqb (byte_of s) 2 && eqb (byte_of (drop (i + 2) t)) k && leb (sym (from_place t i) j) (sym (to-place t i) j) && leb (sym (to-place t i) j) (sym (length-place t i) j)
      && leb (head_length s) data_limit)
      ∙ ap (λ (x : Bool). x && leb (head_length s) data_limit) e

  pub long-data : data_limit < head_length s → false ≡ is_data k s
  unfolding is_data
  long-data h = too_long data_head (head_length s) data_limit (content data_line) h ∙ sym (ap (λ (x : Bool). also x (content data_line)) (data-by refl))

  pub no-data : data_head ≡ false → false ≡ is_data k s
  unfolding is_data
  no-data h = sym (ap (λ (x : Bool). also x (content data_line)) (data-by h))

  pub data-place : data_head ≡ true → head_length s ≤ data_limit → is_content (frames_for (head_length s)) k 0 (head_length s) (drop (i + data_line) t) ≡ is_data k s
  unfolding is_data
  data-place h l = content-place data_line ∙ sym (ap (λ (x : Bool). also x (content data_line)) (data-by h ∙ le-leb (head_length s) data_limit l))

pub after-program-place : (t : List ℕ) → drop (program_line + content_length (head_length t)) t ≡ after_program t
unfolding after_program
after-program-place t = refl

pub after-data-place : (t : List ℕ) (i : ℕ) → drop (i + (data_line + content_length (head_length (drop i t)))) t ≡ after_data (drop i t)
unfolding after_data
after-data-place t i = sym (drop-drop (data_line + content_length (head_length (drop i t))) i t)

-- two tests that are passed together
pub same_test : (a b : Bool) → (a ≡ true → b ≡ true) → (a ≡ false → b ≡ false) → a ≡ b
same_test a b f g = cases a (λ h. h ∙ sym (f h)) (λ h. h ∙ sym (g h))

pub last-place : (t : List ℕ) (i : ℕ) {x y : Bool} → x ≡ y
    → (eqb (byte_of (drop i t)) 255 && eqb (get_or t (i + 2) 0) newline && x) ≡ (eqb (byte_of (drop i t)) 255 && eqb (get_or (drop i t) 2 0) newline && y)
last-place t i e = rw (get_or-drop i t 2 0, e)
