-- Document 01, "Names, cells, protected registers": the bytes of the data segments, and the segments of a program in number order.
use Rattle.std.specs.Prelude.{List, [], ◌∷◌, ◌++◌, ℕ, zero, suc, eqb, length, replicate}
use Rattle.std.proofs.lemmas.List.Edits.{sets}
use Rattle.base.specs.Choose.{whether◌then◌else◌}
use Rattle.base.specs.Numbers.{bytes_of}
use Rattle.objtext.specs.Object.{Segment, program, cells}
use Rattle.translation.specs.Instructions.{Instruction}
use Rattle.translation.specs.Layout.{Layout, Placed, table_bytes, cells_end, literals_end}
use Rattle.translation.specs.Bytes.{encode_all}

-- the initial values of the cells of segment k, laid over an image
unfoldable pub fill : ℕ → List Placed → List ℕ → List ℕ
fill k [] image = image
fill k (p ∷ ps) image = whether eqb p.segment k then sets (fill k ps image) p.offset p.content else fill k ps image

unfoldable pub words : List ℕ → List ℕ
words [] = []
words (v ∷ vs) = bytes_of 4 v ++ words vs

-- "Segment 1 ends with its last literal; with none, with its last cell, or at 16."
abbrev pub end_of_first : Layout → ℕ
end_of_first l = whether eqb (length l.literals) 0 then cells_end l 1 else literals_end l

-- "Cells and elements without values, gaps between cells or literals and, in the object text, the table hold zero."; writable: "16 to the end of cells for
-- segment 1"
unfoldable pub first_data : Layout → Segment
first_data l = cells (sets (fill 1 l.placed (replicate (end_of_first l) 0)) l.literals_at (words l.literals)) table_bytes (cells_end l 1)

-- "Segments 2 and 3 end with their last cell, or at 0."; writable: "the cells"
unfoldable pub data_of : Layout → ℕ → Segment
data_of l k = cells (fill k l.placed (replicate (cells_end l k) 0)) 0 (cells_end l k)

-- n segments from number k on
abbrev pub data_from : Layout → ℕ → ℕ → List Segment
data_from l k zero = []
data_from l k (suc n) = data_of l k ∷ data_from l (suc k) n

unfoldable pub segments : ℕ → Layout → List Instruction → List Segment
segments bases l is = program (encode_all l is) ∷ first_data l ∷ data_from l 2 bases
