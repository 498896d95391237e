-- Where the segments lie in storage, and what of it an instruction may touch.
use Rattle.std.specs.Prelude.{Bool, ◌&&◌, List, ℕ, ◌+◌, ◌*◌, ◌/◌, ◌%◌, ltb, leb, get_or}
use Rattle.base.specs.Choose.{choose}

-- "Segment k goes to 4096·(k+1)": the room of a segment is a page, and segment k has page k + 1
abbrev pub room : ℕ
room = 4096

abbrev pub origin : ℕ → ℕ
origin k = room * (k + 1)

-- page 0, and a page for each of four segments
abbrev pub pages : ℕ
pages = 5

-- "storage under 20,480 bytes" does not do
abbrev pub needed : ℕ
needed = room * pages

-- "base·16 + displacement/256, displacement mod 256": a displacement has 12 bits
abbrev pub displacements : ℕ
displacements = 16 * 256

-- The program's length and, by pages, the length and the writable part of the data segment there; nothing where there is none.
pub record Space : Type 0 where
  pub program : ℕ
  pub end : ℕ → ℕ
  pub from : ℕ → ℕ
  pub to : ℕ → ℕ

-- "What is read must lie wholly in one data segment's bytes"
abbrev pub readable : Space → ℕ → ℕ → Bool
readable m a n = leb (a % room + n) (m.end (a / room))

-- "what is stored in its writable part"
abbrev pub writable : Space → ℕ → ℕ → Bool
writable m a n = leb (m.from (a / room)) (a % room) && leb (a % room + n) (m.to (a / room))

-- The same from one table of three columns, each with an entry for each page: the columns of ends, froms and tos.
abbrev pub end_column : ℕ
end_column = 0

abbrev pub from_column : ℕ
from_column = pages

abbrev pub to_column : ℕ
to_column = 2 * pages

abbrev pub entry : List ℕ → ℕ → ℕ → ℕ
entry map column k = choose (ltb k pages) (get_or map (column + k) 0) 0

abbrev pub space_by : ℕ → List ℕ → Space
space_by program map = record { program = program; end = entry map end_column; from = entry map from_column; to = entry map to_column }
