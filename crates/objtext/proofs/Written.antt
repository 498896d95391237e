-- Reading what is written gives the same segments back: `read-written`. Contents frame by frame, then segments, then the object. Assumes nothing.
use Prim.Native.Nat.{ℕ, zero, suc, ◌+◌, ◌-◌, ◌*◌, ◌<◌, ◌≤◌, min}
use mathlib.Core.Path.{◌≡◌, refl, sym, ap, ◌∙◌}
use mathlib.Core.Bool.{true, false}
use mathlib.Core.List.{List, [], ◌∷◌, ◌++◌, append_assoc}
use mathlib.Core.Option.{some}
use native.Mathlib.Omega.{arith}
use lib.ListN.{length, take, drop, length-append, length-take, length-drop, take-append-drop}
use lib.Seq.{drop_at}
use borrow.Author.Tests.{le-leb, eq-eqb}
use Rattle.base.specs.Lists.{All}
use Rattle.base.specs.Numbers.{bytes_of}
use Rattle.base.proofs.Lists.{all_take, all_drop}
use Rattle.objtext.specs.Object.{Segment, program, cells, content_of, Bytes, content_frame, content_frames, frames_for, head_frame, segment_frames, object_frames, hex_digit, line, text_of, newline, object_text, Data, IsData, Object, program_limit, data_limit, content_limit}
use Rattle.objtext.specs.Reader.{digit_of, byte_of, front_bytes, two_of, is_line, content_length, is_content_frame, is_content, content_at, head_length, head_from, head_to, is_program_head, is_data_head, is_program, program_at, after_program, is_data, data_at, after_data, is_last, push, on_segment, at_last, read_data, read_object, frame_line, data_line, program_line, line_length, frame_head_bytes, bytes_place}
use Rattle.objtext.proofs.Lines.{byte-back, two_back, before, line_before, line_of, front-back, length-line}

abbrev Byte : ℕ → Type 0
Byte b = b < 256

pub text-append : (fs gs : List (List ℕ)) → text_of (fs ++ gs) ≡ text_of fs ++ text_of gs
text-append [] gs = refl
text-append (f ∷ fs) gs = ap (λ (t : List ℕ). line f ++ t) (text-append fs gs) ∙ sym (append_assoc (line f) (text_of fs) (text_of gs))

-- ── content ──

-- a content frame for offset o of segment k, and what follows its line
module _ (k o : ℕ) (bs s : List ℕ) (hk : k < 256) (ho : o < 65536) (hn : length bs < 256) (a : Bytes bs) where
  frame_back : is_content_frame k o (length bs) (before (content_frame k o bs) s) ≡ true
  unfolding is_content_frame bytes_of
  frame_back =
      let b1 : is_line (5 + length bs) (before (content_frame k o bs) s) ≡ true = line_of (5 + length bs) (content_frame k o bs) s (omega arith)
      (omega arith, (hk, (omega arith, (omega arith, (hn, a))))) in
      let b2 : two_of (drop 4 (before (content_frame k o bs) s)) ≡ o = two_back o (length bs ∷ bs) (newline ∷ s) ho in
      rw (
        b1,
        byte-back 0 (drop 2 (before (content_frame k o bs) s)) (omega arith),
        byte-back k (drop 4 (before (content_frame k o bs) s)) hk,
        eq-eqb k k refl,
        b2,
        eq-eqb o o refl,
        byte-back (length bs) (before bs s) hn,
        eq-eqb (length bs) (length bs) refl,
      )

  frame-bytes : front_bytes (length bs) (drop bytes_place (before (content_frame k o bs) s)) ≡ bs
  unfolding bytes_of
  frame-bytes = front-back bs (newline ∷ s) a

  frame-after : length bs ≡ 16 → drop frame_line (line (content_frame k o bs) ++ s) ≡ s
  unfolding bytes_of
  frame-after e = drop_at (line (content_frame k o bs)) s frame_line (omega (arith, length-line (content_frame k o bs)))

-- what is asked of a segment's bytes from offset o on
pub record Fits (m k o : ℕ) (bs : List ℕ) : Type 0 where
  pub bytes : Bytes bs
  pub number : k < 256
  pub offset : 0 < length bs → o + length bs ≤ 65536
  pub frames : m ≡ frames_for (length bs)

fits-rest : (m k o : ℕ) (bs : List ℕ) → Fits (suc m) k o bs → Fits m k (o + 16) (drop 16 bs)
fits-rest m k o bs f =
    let d = length-drop 16 bs in
    let e = f.frames in
    let h = f.offset in
    record { bytes = all_drop Byte 16 bs f.bytes; number = f.number; offset = λ z. omega (arith, h (omega arith)); frames = omega arith }

-- what is read of m frames hangs on the text only where there are any
pub only-frames : (m k o n : ℕ) (s t : List ℕ) → (0 < m → s ≡ t) → is_content m k o n t ≡ true → is_content m k o n s ≡ true
only-frames zero k o n s t h e = refl
only-frames (suc m) k o n s t h e = rw (h (omega arith)) e

only-bytes : (m n : ℕ) (s t : List ℕ) → (0 < m → s ≡ t) → content_at m n s ≡ content_at m n t
only-bytes zero n s t h = refl
only-bytes (suc m) n s t h = rw (h (omega arith))

-- a text of m + 1 frames: the first frame, and the frames that follow
module _ (m k o : ℕ) (bs s : List ℕ) (f : Fits (suc m) k o bs) where
  taken : length (take 16 bs) ≡ min 16 (length bs)
  taken = length-take 16 bs

  first_frame : is_content_frame k o (min 16 (length bs)) (before (content_frame k o (take 16 bs)) s) ≡ true
  first_frame =
      let e = f.frames in
      let h = f.offset (omega arith) in
      rw (← taken) (frame_back k o (take 16 bs) s f.number (omega arith) (omega (arith, taken)) (all_take Byte 16 bs f.bytes))

  first-bytes : front_bytes (min 16 (length bs)) (drop bytes_place (before (content_frame k o (take 16 bs)) s)) ≡ take 16 bs
  first-bytes =
      let e = f.frames in
      let h = f.offset (omega arith) in
      rw (← taken) (frame-bytes k o (take 16 bs) s f.number (omega arith) (omega (arith, taken)) (all_take Byte 16 bs f.bytes))

  others : 0 < m → drop frame_line (before (content_frame k o (take 16 bs)) s) ≡ s
  others l =
      let e = f.frames in
      let h = f.offset (omega arith) in
      rw (← line_before (content_frame k o (take 16 bs)) s)
      (frame-after k o (take 16 bs) s f.number (omega arith) (omega (arith, taken)) (all_take Byte 16 bs f.bytes) (omega (arith, taken)))

abbrev pub frames_text : ℕ → ℕ → ℕ → List ℕ → List ℕ → List ℕ
frames_text m k o bs s = text_of (content_frames m k o bs) ++ s

frames-before : (m k o : ℕ) (bs s : List ℕ) → frames_text (suc m) k o bs s ≡ before (content_frame k o (take 16 bs)) (frames_text m k (o + 16) (drop 16 bs) s)
frames-before m k o bs s =
    append_assoc (line (content_frame k o (take 16 bs))) (text_of (content_frames m k (o + 16) (drop 16 bs))) s
    ∙ line_before (content_frame k o (take 16 bs)) (frames_text m k (o + 16) (drop 16 bs) s)

pub content-back : (m k o : ℕ) (bs s : List ℕ) → Fits m k o bs → is_content m k o (length bs) (frames_text m k o bs s) ≡ true
content-back zero k o bs s f = refl
content-back (suc m) k o bs s f =
    let u = frames_text m k (o + 16) (drop 16 bs) s in
    let v = before (content_frame k o (take 16 bs)) u in
    let ih : is_content m k (o + 16) (length bs - 16) u ≡ true = rw (← length-drop 16 bs) (content-back m k (o + 16) (drop 16 bs) s (fits-rest m k o bs f)) in
    rw (frames-before m k o bs s, first_frame m k o bs u f) (only-frames m k (o + 16) (length bs - 16) (drop frame_line v) u (others m k o bs u f) ih)

pub bytes_back : (m k o : ℕ) (bs s : List ℕ) → Fits m k o bs → content_at m (length bs) (frames_text m k o bs s) ≡ bs
bytes_back zero k o [] s f = refl
bytes_back zero k o (b ∷ bs) s f = absurd (let e = f.frames in omega arith)
bytes_back (suc m) k o bs s f =
    let u = frames_text m k (o + 16) (drop 16 bs) s in
    let v = before (content_frame k o (take 16 bs)) u in
    let ih : content_at m (length bs - 16) u ≡ drop 16 bs = rw (← length-drop 16 bs) (bytes_back m k (o + 16) (drop 16 bs) s (fits-rest m k o bs f)) in
    rw (frames-before m k o bs s, first-bytes m k o bs u f, only-bytes m (length bs - 16) (drop frame_line v) u (others m k o bs u f), ih) (take-append-drop 16 bs)

both-parts : (bs : List ℕ) → length (take 16 bs) + length (drop 16 bs) ≡ length bs
both-parts bs = omega (arith, length-take 16 bs, length-drop 16 bs)

frames-length : (m k o : ℕ) (bs : List ℕ) → length bs ≤ 16 * m → length (text_of (content_frames m k o bs)) ≡ 2 * length bs + line_length frame_head_bytes * m
unfolding bytes_of
frames-length zero k o bs h = omega arith
frames-length (suc m) k o bs h =
    let t = both-parts bs in
    let l = length-line (content_frame k o (take 16 bs)) in
    let a = length-append (line (content_frame k o (take 16 bs))) (text_of (content_frames m k (o + 16) (drop 16 bs))) in
    let ih = frames-length m k (o + 16) (drop 16 bs) (omega (arith, length-drop 16 bs)) in
    omega arith

pub length-frames : (k o : ℕ) (bs : List ℕ) → length (text_of (content_frames (frames_for (length bs)) k o bs)) ≡ content_length (length bs)
length-frames k o bs = frames-length (frames_for (length bs)) k o bs (omega arith)

-- ── segments ──

-- a segment's bytes in their frames, from offset 0 on
segment-fits : (k : ℕ) (bs : List ℕ) → k < 256 → Bytes bs → length bs ≤ content_limit → Fits (frames_for (length bs)) k 0 bs
segment-fits k bs hk a h = record { bytes = a; number = hk; offset = λ z. omega arith; frames = refl }

abbrev pub segment_text : ℕ → Segment → List ℕ → List ℕ
segment_text k g s = before (head_frame k g) (frames_text (frames_for (length (content_of g))) k 0 (content_of g) s)

pub segment-before : (k : ℕ) (g : Segment) (s : List ℕ) → text_of (segment_frames k g) ++ s ≡ segment_text k g s
segment-before k g s =
    append_assoc (line (head_frame k g)) (text_of (content_frames (frames_for (length (content_of g))) k 0 (content_of g))) s
    ∙ line_before (head_frame k g) (frames_text (frames_for (length (content_of g))) k 0 (content_of g) s)

-- the content stands behind the head's line of h characters
after-content : (k h : ℕ) (g : Segment) (s : List ℕ) → length (line (head_frame k g)) ≡ h → drop (h + content_length (length (content_of g))) (segment_text k g s) ≡ s
after-content k h g s e =
    let c = text_of (content_frames (frames_for (length (content_of g))) k 0 (content_of g)) in
    rw (← segment-before k g s)
    (drop_at (line (head_frame k g) ++ c) s (h + content_length (length (content_of g)))
    (omega (arith, length-append (line (head_frame k g)) c, length-frames k 0 (content_of g))))

-- a program
module _ (k : ℕ) (c s : List ℕ) (hk : k < 256) (a : Bytes c) (h : length c ≤ program_limit) where
  program-length : head_length (segment_text k (program c) s) ≡ length c
  unfolding bytes_of
  program-length = two_back (length c) [] (newline ∷ frames_text (frames_for (length c)) k 0 c s) (omega arith)

  program-head : is_program_head k (segment_text k (program c) s) ≡ true
  unfolding bytes_of
  program-head =
      let u = frames_text (frames_for (length c)) k 0 c s in
      let l : is_line 4 (segment_text k (program c) s) ≡ true = line_of 4 (head_frame k (program c)) u refl (omega arith, (hk, (omega arith, (omega arith, tt)))) in
      rw (l, byte-back 1 (drop 2 (segment_text k (program c) s)) (omega arith), byte-back k (drop 4 (segment_text k (program c) s)) hk, eq-eqb k k refl, program-length, le-leb (length c) program_limit h)

  pub is-program : is_program k (segment_text k (program c) s) ≡ true
  unfolding is_program bytes_of
  is-program = rw (program-head, program-length) (content-back (frames_for (length c)) k 0 c s (segment-fits k c hk a (omega arith)))

  pub the-program : program_at (segment_text k (program c) s) ≡ program c
  unfolding program_at bytes_of
  the-program = rw program-length (ap program (bytes_back (frames_for (length c)) k 0 c s (segment-fits k c hk a (omega arith))))

  pub past-program : after_program (segment_text k (program c) s) ≡ s
  unfolding after_program bytes_of
  past-program = rw program-length (after-content k program_line (program c) s refl)

-- a data segment
module _ (k : ℕ) (c : List ℕ) (from to : ℕ) (s : List ℕ) (hk : k < 256) (d : IsData c from to) where
  data-length : head_length (segment_text k (cells c from to) s) ≡ length c
  unfolding bytes_of
  data-length = let h = d.short in two_back (length c) (bytes_of 2 from ++ bytes_of 2 to) (newline ∷ frames_text (frames_for (length c)) k 0 c s) (omega arith)

  data-from : head_from (segment_text k (cells c from to) s) ≡ from
  unfolding bytes_of
  data-from = let h = d.short in let i = d.inside in let o = d.order in two_back from (bytes_of 2 to) (newline ∷ frames_text (frames_for (length c)) k 0 c s) (omega arith)

  data-to : head_to (segment_text k (cells c from to) s) ≡ to
  unfolding bytes_of
  data-to = let h = d.short in let i = d.inside in two_back to [] (newline ∷ frames_text (frames_for (length c)) k 0 c s) (omega arith)

  data_head : is_data_head k (segment_text k (cells c from to) s) ≡ true
  unfolding bytes_of
  data_head =
      let u = frames_text (frames_for (length c)) k 0 c s in
      let b = segment_text k (cells c from to) s in
      let h = d.short in
      let l : is_line 8 b ≡ true = line_of 8 (head_frame k (cells c from to)) u refl (omega arith, (hk, (omega arith, (omega arith, (omega arith, (omega arith, (omega arith, (omega arith, tt)))))))) in
      rw (
        l,
        byte-back 2 (drop 2 b) (omega arith),
        byte-back k (drop 4 b) hk,
        eq-eqb k k refl,
        data-length,
        data-from,
        data-to,
        le-leb from to d.order,
        le-leb to (length c) d.inside,
        le-leb (length c) data_limit h,
      )

  pub is-data : is_data k (segment_text k (cells c from to) s) ≡ true
  unfolding is_data bytes_of
  is-data = rw (data_head, data-length) (content-back (frames_for (length c)) k 0 c s (segment-fits k c hk d.bytes (omega arith)))

  pub the_data : data_at (segment_text k (cells c from to) s) ≡ cells c from to
  unfolding data_at bytes_of
  the_data = rw (data-length, data-from, data-to) (ap (λ (x : List ℕ). cells x from to) (bytes_back (frames_for (length c)) k 0 c s (segment-fits k c hk d.bytes (omega arith))))

  pub past-data : after_data (segment_text k (cells c from to) s) ≡ s
  unfolding after_data bytes_of
  past-data = rw data-length (after-content k data_line (cells c from to) s refl)

  pub not_last : is_last (segment_text k (cells c from to) s) ≡ false
  unfolding is_last
  not_last = rw (byte-back 2 (drop 2 (segment_text k (cells c from to) s)) (omega arith))

-- ── objects ──

last-back : is_last (text_of (object_frames 0 [])) ≡ true
unfolding is_last byte_of digit_of hex_digit
last-back = refl

segment-first : (k : ℕ) (g : Segment) (gs : List Segment) → text_of (object_frames k (g ∷ gs)) ≡ segment_text k g (text_of (object_frames (suc k) gs))
segment-first k g gs = text-append (segment_frames k g) (object_frames (suc k) gs) ∙ segment-before k g (text_of (object_frames (suc k) gs))

data-back : (gs : List Segment) (n k : ℕ) → length gs ≤ n → k + length gs ≤ 256 → All Data gs → read_data n k (text_of (object_frames k gs)) ≡ some gs
unfolding read_data at_last on_segment push
data-back [] zero k h l a = rw last-back
data-back [] (suc n) k h l a = rw last-back
data-back (g ∷ gs) zero k h l a = absurd (omega arith)
data-back (program c ∷ gs) (suc n) k h l a = absurd a.0
data-back (cells c from to ∷ gs) (suc n) k h l a =
    let s = text_of (object_frames (suc k) gs) in
    let hk : k < 256 = omega arith in
    let d = a.0 in
    rw (
      segment-first k (cells c from to) gs,
      not_last k c from to s hk d,
      is-data k c from to s hk d,
      the_data k c from to s hk d,
      past-data k c from to s hk d,
      data-back gs n (suc k) (omega arith) (omega arith) a.1,
    )

first-data : (gs : List Segment) (s : List ℕ) → 1 ≤ length gs → length gs ≤ 3 → All Data gs → s ≡ text_of (object_frames 1 gs)
    → on_segment (is_data 1 s) (data_at s) (λ v. read_data 2 2 (after_data s)) ≡ some gs
unfolding on_segment push
first-data [] s h l a e = absurd (omega arith)
first-data (program c ∷ gs) s h l a e = absurd a.0
first-data (cells c from to ∷ gs) s h l a e =
    let r = text_of (object_frames 2 gs) in
    let d = a.0 in
    rw (
      e,
      segment-first 1 (cells c from to) gs,
      is-data 1 c from to r (omega arith) d,
      the_data 1 c from to r (omega arith) d,
      past-data 1 c from to r (omega arith) d,
      data-back gs 2 2 (omega arith) (omega arith) a.1,
    )

-- reading what is written gives the same segments back
pub read-written : (gs : List Segment) → Object gs → read_object (object_text gs) ≡ some gs
unfolding read_object object_text on_segment push
read-written [] o = absurd o
read-written (cells c from to ∷ gs) o = absurd o
read-written (program c ∷ gs) o =
    let s = text_of (object_frames 1 gs) in
    let hk : 0 < 256 = omega arith in
    rw (segment-first 0 (program c) gs, is-program 0 c s hk o.bytes o.short, the-program 0 c s hk o.bytes o.short)
    (ap (push (program c)) (first-data gs (after_program (segment_text 0 (program c) s)) o.some o.few o.data-segments (past-program 0 c s hk o.bytes o.short)))

-- no two objects have one text
pub written_once : (gs hs : List Segment) → Object gs → Object hs → object_text gs ≡ object_text hs → gs ≡ hs
written_once gs hs o p e = let q : some gs ≡ some hs = sym (read-written gs o) ∙ ap read_object e ∙ read-written hs p in cc
