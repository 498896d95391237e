-- Document 01, "Runner", refusal 17: "text not exactly of the form above with one program head and one to three data heads, numbered in order, lengths
-- at most 4,096, from <= to <= length". The reader is a function from a text to its segments, or none; each part reads the front of what it is handed.
use Rattle.std.specs.Prelude.{List, [], ◌∷◌, ◌++◌, Bool, true, false, ◌&&◌, ℕ, zero, suc, ◌+◌, ◌*◌, ◌-◌, ◌%◌, min, ltb, leb, eqb, length, drop, get_or}
use Rattle.std.specs.Prelude as P
use Rattle.std.proofs.Math.Option.{Option, none, some}
use Rattle.base.specs.Choose.{choose}
use Rattle.objtext.specs.Object.{Segment, program, cells, frame_bytes, frames_for, newline, program_limit, data_limit, most_data}

-- the value of a capital hexadecimal digit, 16 for any other byte
unfoldable pub digit_of : ℕ → ℕ
digit_of c = choose (ltb c 48) 16 (choose (leb c 57) (c - 48) (choose (ltb c 65) 16 (choose (leb c 70) (c - 55) 16)))

-- the byte that two digits make, 256 where either is none
abbrev pub join_of : ℕ → ℕ → ℕ
join_of h l = choose (ltb h 16) (choose (ltb l 16) (h * 16 + l) 256) 256

-- the byte at the front, 256 where there is none
unfoldable pub byte_of : List ℕ → ℕ
byte_of s = join_of (digit_of (get_or s 0 0)) (digit_of (get_or s 1 0))

-- the n bytes at the front
abbrev pub front_bytes : ℕ → List ℕ → List ℕ
front_bytes zero s = []
front_bytes (suc n) s = byte_of s % 256 ∷ front_bytes n (drop 2 s)

-- the number in the two bytes at the front
unfoldable pub two_of : List ℕ → ℕ
two_of s = byte_of s * 256 + byte_of (drop 2 s)

-- n bytes and a newline stand at the front
abbrev pub is_line : ℕ → List ℕ → Bool
is_line zero s = eqb (get_or s 0 0) newline
is_line (suc n) s = ltb (byte_of s) 256 && is_line n (drop 2 s)

-- ── where the parts of a line stand ──

-- the characters of a line of n bytes: two a byte, and the newline
abbrev pub line_length : ℕ → ℕ
line_length n = 2 * n + 1

-- "Program head: 01, number, length (2 bytes)"
abbrev pub program_head_bytes : ℕ
program_head_bytes = 4

-- "Data head: 02, number, length, writable from, writable to"
abbrev pub data_head_bytes : ℕ
data_head_bytes = 8

-- "Content: 00, number, offset (2 bytes), count, bytes": what stands before the bytes
abbrev pub frame_head_bytes : ℕ
frame_head_bytes = 5

-- the number behind a line's first byte
abbrev pub number_place : ℕ
number_place = 2

abbrev pub length_place : ℕ
length_place = 4

abbrev pub from_place : ℕ
from_place = 8

abbrev pub to_place : ℕ
to_place = 12

abbrev pub offset_place : ℕ
offset_place = 4

abbrev pub count_place : ℕ
count_place = 8

abbrev pub bytes_place : ℕ
bytes_place = 2 * frame_head_bytes

-- the lines of the heads and of a whole frame
abbrev pub program_line : ℕ
program_line = line_length program_head_bytes

abbrev pub data_line : ℕ
data_line = line_length data_head_bytes

abbrev pub frame_line : ℕ
frame_line = line_length (frame_head_bytes + frame_bytes)

-- ── content ──

-- the characters of n bytes of content: two a byte, and for each frame a line's without its bytes
abbrev pub content_length : ℕ → ℕ
content_length n = 2 * n + line_length frame_head_bytes * frames_for n

-- a content frame of n bytes for offset o of segment k
unfoldable pub is_content_frame : ℕ → ℕ → ℕ → List ℕ → Bool
is_content_frame k o n s =
    is_line (frame_head_bytes + n) s && eqb (byte_of s) 0 && eqb (byte_of (drop number_place s)) k && eqb (two_of (drop offset_place s)) o && eqb (byte_of (drop count_place s)) n

-- m frames with the n bytes of segment k from offset o on
abbrev pub is_content : ℕ → ℕ → ℕ → ℕ → List ℕ → Bool
is_content zero k o n s = true
is_content (suc m) k o n s = is_content_frame k o (min frame_bytes n) s && is_content m k (o + frame_bytes) (n - frame_bytes) (drop frame_line s)

abbrev pub content_at : ℕ → ℕ → List ℕ → List ℕ
content_at zero n s = []
content_at (suc m) n s = front_bytes (min frame_bytes n) (drop bytes_place s) ++ content_at m (n - frame_bytes) (drop frame_line s)

-- ── segments ──

-- the length that a head gives
abbrev pub head_length : List ℕ → ℕ
head_length s = two_of (drop length_place s)

abbrev pub is_program_head : ℕ → List ℕ → Bool
is_program_head k s = is_line program_head_bytes s && eqb (byte_of s) 1 && eqb (byte_of (drop number_place s)) k && leb (head_length s) program_limit

abbrev pub head_from : List ℕ → ℕ
head_from s = two_of (drop from_place s)

abbrev pub head_to : List ℕ → ℕ
head_to s = two_of (drop to_place s)

abbrev pub is_data_head : ℕ → List ℕ → Bool
is_data_head k s =
    is_line data_head_bytes s && eqb (byte_of s) 2 && eqb (byte_of (drop number_place s)) k
    && leb (head_from s) (head_to s) && leb (head_to s) (head_length s) && leb (head_length s) data_limit

-- the second test only where the first is passed
abbrev pub also : Bool → (Unit {0} → Bool) → Bool
also true next = next tt
also false next = false

-- the lines of segment k, a program
unfoldable pub is_program : ℕ → List ℕ → Bool
is_program k s = also (is_program_head k s) (λ u. is_content (frames_for (head_length s)) k 0 (head_length s) (drop program_line s))

unfoldable pub program_at : List ℕ → Segment
program_at s = program (content_at (frames_for (head_length s)) (head_length s) (drop program_line s))

unfoldable pub after_program : List ℕ → List ℕ
after_program s = drop (program_line + content_length (head_length s)) s

-- the lines of segment k, of data
unfoldable pub is_data : ℕ → List ℕ → Bool
is_data k s = also (is_data_head k s) (λ u. is_content (frames_for (head_length s)) k 0 (head_length s) (drop data_line s))

unfoldable pub data_at : List ℕ → Segment
data_at s = cells (content_at (frames_for (head_length s)) (head_length s) (drop data_line s)) (head_from s) (head_to s)

unfoldable pub after_data : List ℕ → List ℕ
after_data s = drop (data_line + content_length (head_length s)) s

-- "last line FF", and nothing behind it
unfoldable pub is_last : List ℕ → Bool
is_last s = eqb (byte_of s) 255 && eqb (get_or s 2 0) newline && eqb (length s) 3

-- ── objects ──

abbrev pub Read : Type 0
Read = Option (List Segment)

unfoldable pub push : Segment → Read → Read
push g none = none
push g (some gs) = some (g ∷ gs)

-- a segment in front of what is read next, where it is one
unfoldable pub on_segment : Bool → Segment → (Unit {0} → Read) → Read
on_segment true g next = push g (next tt)
on_segment false g next = none

-- nothing more at the last line; else what is read next
unfoldable pub at_last : Bool → (Unit {0} → Read) → Read
at_last true next = some []
at_last false next = next tt

-- at most n data segments, numbered from k, and the last line
unfoldable pub read_data : ℕ → ℕ → List ℕ → Read
read_data zero k s = at_last (is_last s) (λ u. none)
read_data (suc n) k s = at_last (is_last s) (λ u. on_segment (is_data k s) (data_at s) (λ v. read_data n (suc k) (after_data s)))

-- the program, one data segment, and up to two more
unfoldable pub read_object : List ℕ → Read
read_object s =
    on_segment (is_program 0 s) (program_at s)
    (λ u. on_segment (is_data 1 (after_program s)) (data_at (after_program s)) (λ v. read_data (most_data - 1) 2 (after_data (after_program s))))

-- ── the answer as a count ──

-- the n data segments at the front
abbrev pub data_list : ℕ → List ℕ → List Segment
data_list zero s = []
data_list (suc n) s = data_at s ∷ data_list n (after_data s)

-- the program and the data segments behind it, n in all
abbrev pub segment_list : ℕ → List ℕ → List Segment
segment_list zero s = []
segment_list (suc n) s = program_at s ∷ data_list n (after_program s)

-- what a number of segments, or none, says of a text
unfoldable pub read_as : P.Option ℕ → List ℕ → Read
read_as P.None s = none
read_as (P.Some n) s = some (segment_list n s)
