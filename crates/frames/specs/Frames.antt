-- The object of a translated program, by its segments' contents, and how long its text is.
use Rattle.std.specs.Prelude.{List, [], ◌∷◌, ◌++◌, ℕ, zero, suc, ◌+◌, length}
use Rattle.objtext.specs.Object.{Segment, program, cells, segment_frames}
use Rattle.objtext.specs.Reader.{line_length, program_line, data_line, content_length}

-- "Data head: … writable from, writable to (the cells; …)": segments 2 and 3 hold nothing but cells; as many as there are base declarations
abbrev pub later_data : (bases : ℕ) (second third : List ℕ) → List Segment
later_data zero second third = []
later_data (suc zero) second third = cells second 0 (length second) ∷ []
later_data (suc (suc n)) second third = cells second 0 (length second) ∷ cells third 0 (length third) ∷ []

-- the frames of segments numbered from k on
abbrev pub frames_from : ℕ → List Segment → List (List ℕ)
frames_from k [] = []
frames_from k (g ∷ gs) = segment_frames k g ++ frames_from (suc k) gs

-- the program, segment 1 with its cells from 16 up to `to`, and the segments of base declarations
unfoldable pub object_of : (code first : List ℕ) (to bases : ℕ) (second third : List ℕ) → List Segment
object_of code first to bases second third = program code ∷ cells first 16 to ∷ later_data bases second third

-- ── how long the text is, by the lengths of the contents ──

abbrev pub program_length : ℕ → ℕ
program_length n = program_line + content_length n

abbrev pub data_length : ℕ → ℕ
data_length n = data_line + content_length n

abbrev pub later_length : (bases second third : ℕ) → ℕ
later_length zero second third = 0
later_length (suc zero) second third = data_length second
later_length (suc (suc n)) second third = data_length second + data_length third

unfoldable pub length_for : (code first bases second third : ℕ) → ℕ
length_for code first bases second third = program_length code + (data_length first + (later_length bases second third + line_length 1))
