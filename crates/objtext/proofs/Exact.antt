-- What the reader takes is exactly the text of an object, and it takes every such text: `exactly`, `form`. Backwards through the reader: a line, a frame, a content,
-- a segment, an object. Assumes nothing.
use Prim.Native.Nat.{ℕ, zero, suc, ◌+◌, ◌-◌, ◌*◌, ◌/◌, ◌%◌, ◌<◌, ◌≤◌, min}
use mathlib.Core.Path.{◌≡◌, refl, sym, ap, ◌∙◌, subst}
use mathlib.Core.Bool.{Bool, true, false, not, ◌||◌}
use mathlib.Core.List.{List, [], ◌∷◌, ◌++◌, append_assoc, append-nil}
use mathlib.Core.Logic.{◌↔◌}
use mathlib.Core.Option.{none, some}
use native.Mathlib.Omega.{arith}
use native.Mathlib.Decide.{dec_le}
use lib.Dec.{eqb, ltb, leb, eqb→eq}
use lib.ListN.{length, take, drop, get_or, length-append, drop_of_length-le}
use lib.Seq.{drop_at, take_at, take_all, drop-drop}
use borrow.Author.Tests.{lt-ltb, le-ltb, lt-leb, ltb-true, leb-true, eqb-true}
use Rattle.base.specs.Lists.{All}
use Rattle.base.specs.Numbers.{bytes_of}
use Rattle.base.proofs.Lists.{all_both, none-some}
use Rattle.base.proofs.Tables.{all-below}
use Rattle.base.proofs.Tests.{cases, implied, never_true, both}
use Rattle.objtext.specs.Object.{Segment, program, cells, Bytes, content_frame, content_frames, frames_for, segment_frames, object_frames, hex_digit, hex, line, text_of, newline, object_text, Data, IsData, Object, Form, of-object, of_none, program_limit, data_limit}
use Rattle.objtext.specs.Reader.{digit_of, join_of, byte_of, two_of, is_line, is_content_frame, is_content, head_length, head_from, head_to, is_program_head, is_data_head, also, is_program, program_at, after_program, is_data, data_at, after_data, is_last, Read, on_segment, read_data, read_object, frame_line, data_line, program_line}
use Rattle.objtext.proofs.Lines.{before, line_before, length-line}
use Rattle.objtext.proofs.Written.{text-append, only-frames, segment_text, segment-before, the-program, past-program, the_data, past-data, read-written}
use Rattle.objtext.proofs.Walks.{Behind, behind, at-end}

-- ── digits and bytes ──

digit-form : (c : ℕ) → digit_of c < 16 → hex_digit (digit_of c) ≡ c
unfolding digit_of hex_digit
digit-form c h = go (dec_le 71 c)
  where
    go : Dec (71 ≤ c) → hex_digit (digit_of c) ≡ c
    go (yes l) =
        let e : digit_of c ≡ 16 = rw (le-ltb c 48 (omega arith), lt-leb c 57 (omega arith), le-ltb c 65 (omega arith), lt-leb c 70 (omega arith)) in
        absurd (omega arith)
    go (no l) =
        eqb→eq (hex_digit (digit_of c)) c
        (implied (ltb (digit_of c) 16) (eqb (hex_digit (digit_of c)) c)
        (all-below 71 (λ k. not (ltb (digit_of k) 16) || eqb (hex_digit (digit_of k)) k) tt c (omega arith)) (lt-ltb (digit_of c) 16 h))

-- two digits make a byte, or else 256
joined : (h l : ℕ) → join_of h l < 256 → (h < 16) × (l < 16) × (join_of h l ≡ h * 16 + l)
joined h l q =
    cases (ltb h 16)
    (λ a. cases (ltb l 16) (λ b. (ltb-true h 16 a, ltb-true l 16 b, rw (a, b)))
    (λ b. absurd (let e : join_of h l ≡ 256 = rw (a, b) in omega arith)))
    (λ a. absurd (let e : join_of h l ≡ 256 = rw a in omega arith))

-- a byte at the front is its two digits
byte-form : (s : List ℕ) → byte_of s < 256 → s ≡ hex_digit (byte_of s / 16) ∷ hex_digit (byte_of s % 16) ∷ drop 2 s
unfolding byte_of digit_of
byte-form [] h = absurd (omega arith)
byte-form (x ∷ []) h = absurd (let q = joined (digit_of x) 16 h in omega arith)
byte-form (x ∷ y ∷ s) h =
    let q = joined (digit_of x) (digit_of y) h in
    let a : byte_of (x ∷ y ∷ s) / 16 ≡ digit_of x = omega arith in
    let b : byte_of (x ∷ y ∷ s) % 16 ≡ digit_of y = omega arith in
    rw (a, b, digit-form x q.0, digit-form y q.1)

-- ── lines ──

-- the first of n + 1 bytes on a line
one_form : (n : ℕ) (s : List ℕ) → is_line (suc n) s ≡ true → (s ≡ hex (byte_of s ∷ []) ++ drop 2 s) × (byte_of s < 256) × (is_line n (drop 2 s) ≡ true)
one_form n s e =
    let q = both (ltb (byte_of s) 256) (is_line n (drop 2 s)) e in
    let b = ltb-true (byte_of s) 256 q.0 in
    (byte-form s b, b, q.1)

-- a number in the first two of n + 2 bytes on a line
two-form : (n : ℕ) (s : List ℕ) → is_line (suc (suc n)) s ≡ true → (s ≡ hex (bytes_of 2 (two_of s)) ++ drop 4 s) × (is_line n (drop 4 s) ≡ true)
unfolding two_of bytes_of
two-form n s e =
    let f = one_form (suc n) s e in
    let g = one_form n (drop 2 s) f.2 in
    let h = f.1 in
    let l = g.1 in
    let u : two_of s / 256 % 256 ≡ byte_of s = omega arith in
    let v : two_of s % 256 ≡ byte_of (drop 2 s) = omega arith in
    (rw (u, v) (f.0 ∙ ap (λ (t : List ℕ). hex (byte_of s ∷ []) ++ t) (g.0 ∙ ap (λ (t : List ℕ). hex (byte_of (drop 2 s) ∷ []) ++ t) (drop-drop 2 2 s))), rw (← drop-drop 2 2 s) g.2)

-- what begins every frame but the last: two bytes and a number
head-form : (n x k : ℕ) (s : List ℕ) → is_line (suc (suc (suc (suc n)))) s ≡ true → byte_of s ≡ x → byte_of (drop 2 s) ≡ k
    → (s ≡ hex (x ∷ k ∷ bytes_of 2 (two_of (drop 4 s))) ++ drop 8 s) × (is_line n (drop 8 s) ≡ true)
unfolding bytes_of
head-form n x k s e p q =
    let f = one_form (suc (suc (suc n))) s e in
    let g = one_form (suc (suc n)) (drop 2 s) f.2 in
    let h = two-form n (drop 4 s) (rw (drop-drop 2 2 s) at g.2) in
    let u : drop 2 s ≡ hex (k ∷ []) ++ drop 4 s = rw (← q, ← drop-drop 2 2 s) g.0 in
    let v : s ≡ hex (x ∷ []) ++ drop 2 s = rw (← p) f.0 in
    let w : drop 4 s ≡ hex (bytes_of 2 (two_of (drop 4 s))) ++ drop 8 s = rw (← drop-drop 4 4 s) h.0 in
    (v ∙ ap (λ (t : List ℕ). hex (x ∷ []) ++ t) (u ∙ ap (λ (t : List ℕ). hex (k ∷ []) ++ t) w), rw (← drop-drop 4 4 s) h.1)

-- the end of a line
end-form : (s : List ℕ) → is_line zero s ≡ true → s ≡ newline ∷ drop 1 s
end-form [] e = absurd (let q = eqb-true 0 10 e in omega arith)
end-form (x ∷ s) e = ap (λ (c : ℕ). c ∷ s) (eqb-true x 10 e)

-- the last n bytes of a line
record Line (n : ℕ) (s : List ℕ) : Type 0 where
  frame : List ℕ
  rest : List ℕ
  bytes : Bytes frame
  long : length frame ≡ n
  whole : s ≡ before frame rest

line-form : (n : ℕ) (s : List ℕ) → is_line n s ≡ true → Line n s
line-form zero s e = record { frame = []; rest = drop 1 s; bytes = tt; long = refl; whole = end-form s e }
line-form (suc n) s e = go (one_form n s e) (line-form n (drop 2 s) (one_form n s e).2)
  where
    go : (s ≡ hex (byte_of s ∷ []) ++ drop 2 s) × (byte_of s < 256) × (is_line n (drop 2 s) ≡ true) → Line n (drop 2 s) → Line (suc n) s
    go f l =
        record {
          frame = byte_of s ∷ l.frame;
          rest = l.rest;
          bytes = (f.1, l.bytes);
          long = ap suc l.long;
          whole = f.0 ∙ ap (λ (t : List ℕ). hex (byte_of s ∷ []) ++ t) l.whole;
        }

-- ── contents ──

-- a frame of n bytes for offset o of segment k
record Framed (k o n : ℕ) (s : List ℕ) : Type 0 where
  content : List ℕ
  rest : List ℕ
  bytes : Bytes content
  long : length content ≡ n
  whole : s ≡ before (content_frame k o content) rest

frame-form : (k o n : ℕ) (s : List ℕ) → is_content_frame k o n s ≡ true → Framed k o n s
unfolding is_content_frame bytes_of
frame-form k o n s e =
    let w : 5 + n ≡ suc (suc (suc (suc (suc n)))) = omega arith in
    let a = both _ (eqb (byte_of (drop 8 s)) n) e in
    let b = both _ (eqb (two_of (drop 4 s)) o) a.0 in
    let c = both _ (eqb (byte_of (drop 2 s)) k) b.0 in
    let d = both (is_line (5 + n) s) (eqb (byte_of s) 0) c.0 in
    let h = head-form (suc n) 0 k s (rw w at d.0) (eqb-true (byte_of s) 0 d.1) (eqb-true (byte_of (drop 2 s)) k c.1) in
    let f = one_form n (drop 8 s) h.1 in
    let l = line-form n (drop 10 s) (rw (drop-drop 2 8 s) at f.2) in
    let u : two_of (drop 4 s) ≡ o = eqb-true (two_of (drop 4 s)) o b.1 in
    let v : byte_of (drop 8 s) ≡ length l.frame = eqb-true (byte_of (drop 8 s)) n a.1 ∙ sym l.long in
    let x : drop 8 s ≡ hex (length l.frame ∷ []) ++ drop 10 s = rw (← v, ← drop-drop 2 8 s) f.0 in
    let y : s ≡ hex (0 ∷ k ∷ bytes_of 2 o) ++ drop 8 s = rw (← u) h.0 in
    record {
      content = l.frame;
      rest = l.rest;
      bytes = l.bytes;
      long = l.long;
      whole = y ∙ ap (λ (t : List ℕ). hex (0 ∷ k ∷ bytes_of 2 o) ++ t) (x ∙ ap (λ (t : List ℕ). hex (length l.frame ∷ []) ++ t) l.whole);
    }

-- a frame's bytes and those behind it
parts : (a b : List ℕ) (n : ℕ) → length a ≡ min 16 n → length b ≡ n - 16 → (take 16 (a ++ b) ≡ a) × (drop 16 (a ++ b) ≡ b)
parts a b n p q = go (dec_le 16 n) b q
  where
    go : Dec (16 ≤ n) → (b : List ℕ) → length b ≡ n - 16 → (take 16 (a ++ b) ≡ a) × (drop 16 (a ++ b) ≡ b)
    go (yes l) b q = (take_at a b 16 (omega arith), drop_at a b 16 (omega arith))
    go (no l) [] q = rw (append-nil a) (take_all 16 a (omega arith), drop_of_length-le a {i = 16} (omega arith))
    go (no l) (x ∷ b) q = absurd (omega arith)

-- the n bytes of segment k from offset o on, in m frames
record Content (m k o n : ℕ) (s : List ℕ) : Type 0 where
  content : List ℕ
  rest : List ℕ
  bytes : Bytes content
  long : length content ≡ n
  whole : s ≡ text_of (content_frames m k o content) ++ rest

content-form : (m k o n : ℕ) (s : List ℕ) → m ≡ frames_for n → is_content m k o n s ≡ true → Content m k o n s
unfolding bytes_of
content-form zero k o n s q e = record { content = []; rest = s; bytes = tt; long = omega arith; whole = refl }
content-form (suc m) k o n s q e = go f (content-form m k (o + 16) (n - 16) f.rest (omega arith) others)
  where
    t : (is_content_frame k o (min 16 n) s ≡ true) × (is_content m k (o + 16) (n - 16) (drop frame_line s) ≡ true)
    t = both (is_content_frame k o (min 16 n) s) (is_content m k (o + 16) (n - 16) (drop frame_line s)) e

    f : Framed k o (min 16 n) s
    f = frame-form k o (min 16 n) s t.0

    F : List ℕ
    F = content_frame k o f.content

    behind-frame : 0 < m → f.rest ≡ drop frame_line s
    behind-frame h =
        let l = f.long in
        sym (ap (drop frame_line) (f.whole ∙ sym (line_before F f.rest)) ∙ drop_at (line F) f.rest frame_line (omega (arith, length-line F)))

    others : is_content m k (o + 16) (n - 16) f.rest ≡ true
    others = only-frames m k (o + 16) (n - 16) f.rest (drop frame_line s) behind-frame t.1

    go : (f : Framed k o (min 16 n) s) → Content m k (o + 16) (n - 16) f.rest → Content (suc m) k o n s
    go f c =
        let a = f.content in
        let b = c.content in
        let p = parts a b n f.long c.long in
        record {
          content = a ++ b;
          rest = c.rest;
          bytes = all_both (λ (x : ℕ). x < 256) a b f.bytes c.bytes;
          long = omega (arith, length-append a b, f.long, c.long);
          whole = rw (p.0, p.1)
              (f.whole ∙ sym (line_before (content_frame k o a) f.rest) ∙ ap (λ (x : List ℕ). line (content_frame k o a) ++ x) c.whole
              ∙ sym (append_assoc (line (content_frame k o a)) (text_of (content_frames m k (o + 16) b)) c.rest));
        }

-- ── segments ──

-- a program of bytes that is not too long
abbrev Program : Segment → Type 0
Program (program c) = Bytes c × (length c ≤ program_limit)
Program (cells c from to) = ⊥

-- what is read of segment k is a segment of its kind, and its lines stand in front of what is read next
record Taken (Is : Segment → Type 0) (k : ℕ) (g : Segment) (s after : List ℕ) : Type 0 where
  is : Is g
  whole : text_of (segment_frames k g) ++ after ≡ s

taken : (Is : Segment → Type 0) (k : ℕ) (g h : Segment) (s after rest : List ℕ) → h ≡ g → after ≡ rest → Is g → segment_text k g rest ≡ s → Taken Is k h s after
taken Is k g h s after rest e q i w = record { is = subst Is (sym e) i; whole = rw (e, q) (segment-before k g rest ∙ w) }

-- the second of two tests where the first is passed
also-both : (b : Bool) (next : Unit {0} → Bool) → also b next ≡ true → (b ≡ true) × (next tt ≡ true)
also-both true next e = (refl, e)
also-both false next e = never_true e

program-exact : (k : ℕ) (s : List ℕ) → k < 256 → is_program k s ≡ true → Taken Program k (program_at s) s (after_program s)
unfolding is_program bytes_of
program-exact k s hk e =
    let a = also-both (is_program_head k s) _ e in
    let b = both _ (leb (head_length s) program_limit) a.0 in
    let c = both _ (eqb (byte_of (drop 2 s)) k) b.0 in
    let d = both (is_line 4 s) (eqb (byte_of s) 1) c.0 in
    let h = head-form 0 1 k s d.0 (eqb-true (byte_of s) 1 d.1) (eqb-true (byte_of (drop 2 s)) k c.1) in
    let n : drop 8 s ≡ newline ∷ drop program_line s = rw (← drop-drop 1 8 s) (end-form (drop 8 s) h.1) in
    let f = content-form (frames_for (head_length s)) k 0 (head_length s) (drop program_line s) refl a.1 in
    let l = f.long in
    let short : length f.content ≤ program_limit = omega (arith, leb-true (head_length s) program_limit b.1) in
    let w : s ≡ segment_text k (program f.content) f.rest
    = rw l (h.0 ∙ ap (λ (t : List ℕ). hex (1 ∷ k ∷ bytes_of 2 (head_length s)) ++ t) (n ∙ ap (λ (t : List ℕ). newline ∷ t) f.whole)) in
    taken Program k (program f.content) (program_at s) s (after_program s) f.rest
    (ap program_at w ∙ the-program k f.content f.rest hk f.bytes short) (ap after_program w ∙ past-program k f.content f.rest hk f.bytes short)
    (f.bytes, short) (sym w)

data-exact : (k : ℕ) (s : List ℕ) → k < 256 → is_data k s ≡ true → Taken Data k (data_at s) s (after_data s)
unfolding is_data bytes_of
data-exact k s hk e =
    let a = also-both (is_data_head k s) _ e in
    let b = both _ (leb (head_length s) data_limit) a.0 in
    let c = both _ (leb (head_to s) (head_length s)) b.0 in
    let d = both _ (leb (head_from s) (head_to s)) c.0 in
    let g = both _ (eqb (byte_of (drop 2 s)) k) d.0 in
    let i = both (is_line 8 s) (eqb (byte_of s) 2) g.0 in
    let h = head-form 4 2 k s i.0 (eqb-true (byte_of s) 2 i.1) (eqb-true (byte_of (drop 2 s)) k g.1) in
    let p = two-form 2 (drop 8 s) h.1 in
    let q = two-form 0 (drop 12 s) (rw (drop-drop 4 8 s) at p.1) in
    let m : drop 16 s ≡ newline ∷ drop data_line s = rw (← drop-drop 1 16 s) (end-form (drop 16 s) (rw (drop-drop 4 12 s) at q.1)) in
    let f = content-form (frames_for (head_length s)) k 0 (head_length s) (drop data_line s) refl a.1 in
    let l = f.long in
    let is : IsData f.content (head_from s) (head_to s)
    = record {
      bytes = f.bytes;
      short = omega (arith, leb-true (head_length s) data_limit b.1);
      order = leb-true (head_from s) (head_to s) d.1;
      inside = omega (arith, leb-true (head_to s) (head_length s) c.1);
    } in
    let u : drop 8 s ≡ hex (bytes_of 2 (head_from s)) ++ drop 12 s = rw (← drop-drop 4 8 s) p.0 in
    let v : drop 12 s ≡ hex (bytes_of 2 (head_to s)) ++ drop 16 s = rw (← drop-drop 4 12 s) q.0 in
    let x = f.content in
    let r = f.rest in
    let w : s ≡ segment_text k (cells x (head_from s) (head_to s)) r
    = rw l
    (h.0
    ∙ ap (λ (t : List ℕ). hex (2 ∷ k ∷ bytes_of 2 (head_length s)) ++ t)
    (u ∙ ap (λ (t : List ℕ). hex (bytes_of 2 (head_from s)) ++ t)
    (v ∙ ap (λ (t : List ℕ). hex (bytes_of 2 (head_to s)) ++ t) (m ∙ ap (λ (t : List ℕ). newline ∷ t) f.whole)))) in
    taken Data k (cells x (head_from s) (head_to s)) (data_at s) s (after_data s) r
    (ap data_at w ∙ the_data k x (head_from s) (head_to s) r hk is) (ap after_data w ∙ past-data k x (head_from s) (head_to s) r hk is) is (sym w)

-- ── objects ──

-- "last line FF", and nothing behind it
last-exact : (s : List ℕ) → is_last s ≡ true → s ≡ line (255 ∷ [])
unfolding is_last hex_digit
last-exact s e =
    let a = both _ (eqb (length s) 3) e in
    let b = both (eqb (byte_of s) 255) (eqb (get_or s 2 0) 10) a.0 in
    let f = eqb-true (byte_of s) 255 b.0 in
    rw f at (byte-form s (omega arith)) ∙ ap (λ (t : List ℕ). 70 ∷ 70 ∷ t) (go s (eqb-true (get_or s 2 0) 10 b.1) (eqb-true (length s) 3 a.1))
  where
    go : (s : List ℕ) → get_or s 2 0 ≡ 10 → length s ≡ 3 → drop 2 s ≡ 10 ∷ []
    go [] g l = absurd (omega arith)
    go (x ∷ []) g l = absurd (omega arith)
    go (x ∷ y ∷ []) g l = absurd (omega arith)
    go (x ∷ y ∷ z ∷ []) g l = ap (λ (c : ℕ). c ∷ []) g
    go (x ∷ y ∷ z ∷ w ∷ s) g l = absurd (omega arith)

-- what is read of data segments numbered from k on
record Rest (n k : ℕ) (s : List ℕ) (gs : List Segment) : Type 0 where
  data-segments : All Data gs
  few : length gs ≤ n
  whole : text_of (object_frames k gs) ≡ s

rest-none : (n k : ℕ) (s : List ℕ) (gs : List Segment) → is_last s ≡ true → length gs ≡ 0 → Rest n k s gs
rest-none n k s [] e l = record { data-segments = tt; few = omega arith; whole = sym (last-exact s e) }
rest-none n k s (g ∷ gs) e l = absurd (omega arith)

rest_more : (n k : ℕ) (s : List ℕ) (next : Unit {0} → Read) (gs : List Segment) → k < 256 → (b : Behind (is_data k s) next (data_at s) gs)
    → Rest n (suc k) (after_data s) b.others → Rest (suc n) k s gs
rest_more n k s next gs hk b r =
    let d = data-exact k s hk b.is in
    let g = data_at s in
    rw b.whole
    (record {
      data-segments = (d.is, r.data-segments);
      few = (let h = r.few in omega arith);
      whole = text-append (segment_frames k g) (object_frames (suc k) b.others) ∙ ap (λ (t : List ℕ). text_of (segment_frames k g) ++ t) r.whole ∙ d.whole;
    })

data-exactly : (n k : ℕ) (s : List ℕ) (gs : List Segment) → k + n ≤ 256 → read_data n k s ≡ some gs → Rest n k s gs
unfolding read_data
data-exactly zero k s gs h e =
    let a = at-end (is_last s) (λ u. none) gs e in
    cases (is_last s) (λ l. rest-none zero k s gs l (a.0 l)) (λ l. absurd (none-some gs (a.1 l)))
data-exactly (suc n) k s gs h e =
    let next : Unit {0} → Read = λ v. read_data n (suc k) (after_data s) in
    let a = at-end (is_last s) (λ u. on_segment (is_data k s) (data_at s) next) gs e in
    cases (is_last s) (λ l. rest-none (suc n) k s gs l (a.0 l))
    (λ l.
    let b = behind (is_data k s) next (data_at s) gs (a.1 l) in
    rest_more n k s next gs (omega arith) b (data-exactly n (suc k) (after_data s) b.others (omega arith) b.read))

-- what is read is an object, and the text is its text
pub read-exact : (t : List ℕ) (gs : List Segment) → read_object t ≡ some gs → Object gs × (object_text gs ≡ t)
unfolding read_object object_text
read-exact t gs e =
    let third : Unit {0} → Read = λ v. read_data 2 2 (after_data (after_program t)) in
    let second : Unit {0} → Read = λ u. on_segment (is_data 1 (after_program t)) (data_at (after_program t)) third in
    let b = behind (is_program 0 t) second (program_at t) gs e in
    let d = behind (is_data 1 (after_program t)) third (data_at (after_program t)) b.others b.read in
    let r = rest_more 2 1 (after_program t) third b.others (omega arith) d (data-exactly 2 2 (after_data (after_program t)) d.others (omega arith) d.read) in
    let p = program-exact 0 t (omega arith) b.is in
    let n : 1 ≤ length b.others = rw d.whole (omega arith) in
    subst (λ (hs : List Segment). Object hs × (object_text hs ≡ t)) (sym b.whole) (
      object (program_at t) b.others p.is n r.few r.data-segments,
      text-append (segment_frames 0 (program_at t)) (object_frames 1 b.others) ∙ ap (λ (x : List ℕ). text_of (segment_frames 0 (program_at t)) ++ x) r.whole ∙ p.whole,
    )
  where
    object : (g : Segment) (gs : List Segment) → Program g → 1 ≤ length gs → length gs ≤ 3 → All Data gs → Object (g ∷ gs)
    object (program c) gs p n f a = record { bytes = p.0; short = p.1; some = n; few = f; data-segments = a }
    object (cells c from to) gs p n f a = absurd p

-- "exactly of the form above": a text is read as the object whose text it is, and no other text is read
pub exactly : (t : List ℕ) (gs : List Segment) → read_object t ≡ some gs ↔ Object gs × (object_text gs ≡ t)
exactly t gs = (read-exact t gs, λ f. ap read_object (sym f.1) ∙ read-written gs f.0)

-- so the reader tells of each text whether it is of the form
unfoldable pub form : (t : List ℕ) → Form t
form t = go (read_object t) refl
  where
    go : (r : Read) → read_object t ≡ r → Form t
    go none e = of_none (λ gs o q. none-some gs (sym e ∙ (exactly t gs).1 (o, q)))
    go (some gs) e = of-object gs (read-exact t gs e).0 (read-exact t gs e).1
