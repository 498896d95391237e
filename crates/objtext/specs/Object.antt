-- Document 01, "Object text": an object is the list of its segments, in number order from 0, and its text has a line for each frame.
use Rattle.std.specs.Prelude.{◌≡◌, List, [], ◌∷◌, ◌++◌, ℕ, zero, suc, ◌+◌, ◌/◌, ◌%◌, ◌<◌, ◌≤◌, max, length, take, drop, get_or}
use Rattle.base.specs.Lists.{All}
use Rattle.base.specs.Numbers.{bytes_of}
use Rattle.base.specs.Text.{bytes}

-- a program's bytes; or a data segment's bytes, writable from the offset `from` up to the offset `to`
pub data Segment : Type 0 where
  program : (content : List ℕ) → Segment
  cells : (content : List ℕ) (from to : ℕ) → Segment

abbrev pub content_of : Segment → List ℕ
content_of (program c) = c
content_of (cells c from to) = c

-- ── frames ──

-- "Program head: 01, number, length (2 bytes). Data head: 02, number, length, writable from, writable to."
abbrev pub head_frame : ℕ → Segment → List ℕ
head_frame k (program c) = 1 ∷ k ∷ bytes_of 2 (length c)
head_frame k (cells c from to) = 2 ∷ k ∷ (bytes_of 2 (length c) ++ (bytes_of 2 from ++ bytes_of 2 to))

-- "Content: 00, number, offset (2 bytes), count, bytes"
abbrev pub content_frame : ℕ → ℕ → List ℕ → List ℕ
content_frame k o bs = 0 ∷ k ∷ (bytes_of 2 o ++ (length bs ∷ bs))

-- "16 bytes a frame"
abbrev pub frame_bytes : ℕ
frame_bytes = 16

-- how many frames n bytes take
abbrev pub frames_for : ℕ → ℕ
frames_for n = (n + 15) / frame_bytes

-- the m frames of the content from offset o on, "the last shorter"
abbrev pub content_frames : ℕ → ℕ → ℕ → List ℕ → List (List ℕ)
content_frames zero k o bs = []
content_frames (suc m) k o bs = content_frame k o (take frame_bytes bs) ∷ content_frames m k (o + frame_bytes) (drop frame_bytes bs)

abbrev pub segment_frames : ℕ → Segment → List (List ℕ)
segment_frames k g = head_frame k g ∷ content_frames (frames_for (length (content_of g))) k 0 (content_of g)

-- "Segments in number order, each after its head; last line FF."
abbrev pub object_frames : ℕ → List Segment → List (List ℕ)
object_frames k [] = (255 ∷ []) ∷ []
object_frames k (g ∷ gs) = segment_frames k g ++ object_frames (suc k) gs

-- ── text ──

-- "Capital hexadecimal"
unfoldable pub hex_digit : ℕ → ℕ
hex_digit d = get_or (bytes "0123456789ABCDEF") d 0

abbrev pub hex : List ℕ → List ℕ
hex [] = []
hex (b ∷ bs) = hex_digit (b / 16) ∷ hex_digit (b % 16) ∷ hex bs

-- "one frame a line, each ended by byte 10"
abbrev pub newline : ℕ
newline = 10

abbrev pub line : List ℕ → List ℕ
line f = hex f ++ (newline ∷ [])

abbrev pub text_of : List (List ℕ) → List ℕ
text_of [] = []
text_of (f ∷ fs) = line f ++ text_of fs

unfoldable pub object_text : List Segment → List ℕ
object_text gs = text_of (object_frames 0 gs)

-- ── objects ──

abbrev pub Bytes : List ℕ → Type 0
Bytes bs = All (λ (b : ℕ). b < 256) bs

-- "lengths at most 4,096"
abbrev pub program_limit : ℕ
program_limit = 4096

abbrev pub data_limit : ℕ
data_limit = 4096

-- of a content, whichever the kind of its segment
abbrev pub content_limit : ℕ
content_limit = max program_limit data_limit

-- "one to three data heads"
abbrev pub most_data : ℕ
most_data = 3

-- a data segment: "from <= to <= length"
pub record IsData (content : List ℕ) (from to : ℕ) : Type 0 where
  pub bytes : Bytes content
  pub short : length content ≤ data_limit
  pub order : from ≤ to
  pub inside : to ≤ length content

abbrev pub Data : Segment → Type 0
Data (program c) = ⊥
Data (cells c from to) = IsData c from to

pub record IsObject (content : List ℕ) (rest : List Segment) : Type 0 where
  pub bytes : Bytes content
  pub short : length content ≤ program_limit
  pub some : 1 ≤ length rest
  pub few : length rest ≤ most_data
  pub data-segments : All Data rest

-- "one program head and one to three data heads, numbered in order, lengths at most 4,096, from <= to <= length"
abbrev pub Object : List Segment → Type 0
Object [] = ⊥
Object (program c ∷ gs) = IsObject c gs
Object (cells c from to ∷ gs) = ⊥

-- "exactly of the form above": a text is that of an object, or that of none
pub data Form (text : List ℕ) : Type 0 where
  of-object : (gs : List Segment) → Object gs → object_text gs ≡ text → Form text
  of_none : ((gs : List Segment) → Object gs → object_text gs ≡ text → ⊥) → Form text
