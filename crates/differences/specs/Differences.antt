-- A stored object text held against what its source becomes: the first line in which they differ, and what that line is:
--     survey.object:20:43: not what survey.pl360 becomes: contents of segment 1 from offset #0030
--       stored  0001003010000000000000000000000000000E
--       becomes 00010030100000000000000000000000000000
--                                                    ^
use Rattle.std.specs.Prelude.{ℕ, ◌+◌, Bool, List, [], ◌++◌, eqb, leb, length, take, drop, get_or, replicate}
use Rattle.std.specs.List.{prefix_len, starts_with, zip}
use Rattle.std.specs.Option.{unwrap_or}
use Rattle.base.specs.Choose.{choose}
use Rattle.base.specs.Text.{bytes}
use Rattle.figures.specs.Numbers.{digit_of}
use Rattle.figures.specs.Parts.{part_count, part_of, filled}
use Rattle.excerpts.specs.Lines.{visibles, place_text}

-- how many bytes two texts begin with in common
abbrev pub common : List ℕ → List ℕ → ℕ
common s t = prefix_len (λ (a, b). eqb a b) (zip s t)

-- the number of the line in which they differ, counted from 0
abbrev pub line_at : List ℕ → List ℕ → ℕ
line_at made stored = part_count 10 (take (common made stored) made)

-- "Program head: 01 …; Data head: 02 …; Content: 00 …; last line FF", by the second digit; behind the last line there is none; `%` stands for the segment's number
abbrev pub kind_of : ℕ → List ℕ
kind_of b =
    choose (eqb b 49) (bytes "the head of the program")
    (choose (eqb b 50) (bytes "the head of segment %")
    (choose (eqb b 48) (bytes "contents of segment %") (choose (eqb b 70) (bytes "the last line") (bytes "behind the last line"))))

-- a content frame has its offset behind its number
abbrev pub offset_text : List ℕ → List ℕ
offset_text line = choose (eqb (get_or line 1 0) 48) (bytes " from offset #" ++ take 4 (drop 4 line)) []

-- the segment's number; what is no digit is told as 16
abbrev pub line_kind : List ℕ → List ℕ
line_kind line = filled (unwrap_or (digit_of (get_or line 3 0)) 16) (kind_of (get_or line 1 0)) ++ offset_text line

-- where the stored text is at its end
abbrev pub end_text : Bool → List ℕ
end_text ends = choose ends (bytes ", where the stored text ends\n") (bytes "\n")

abbrev pub about_text : List ℕ → ℕ → ℕ → List ℕ → List ℕ
about_text object line column source = place_text object line column ++ bytes ": not what " ++ source ++ bytes " becomes: "

-- at most 100 bytes of a line are shown
abbrev pub shown_text : List ℕ → List ℕ → List ℕ
shown_text name line = name ++ visibles (take 100 line) ++ bytes "\n"

abbrev pub caret_text : ℕ → List ℕ
caret_text before = replicate (10 + before) 32 ++ bytes "^\n"

-- the two lines, and the byte in which they differ
abbrev pub lines_text : List ℕ → List ℕ → List ℕ
lines_text was is = shown_text (bytes "  stored  ") was ++ shown_text (bytes "  becomes ") is ++ caret_text (common is was)

abbrev pub head_text : List ℕ → List ℕ → ℕ → List ℕ → List ℕ → Bool → List ℕ
head_text source object line is was ends = about_text object (line + 1) (common is was + 1) source ++ line_kind is ++ end_text ends

-- an object text begins with 01
abbrev pub hint_text : List ℕ → List ℕ
hint_text stored =
    choose (starts_with eqb stored (bytes "01")) [] (bytes "  an object text begins with 01: this is none, and may be a source\n")

abbrev pub difference_at : List ℕ → List ℕ → List ℕ → List ℕ → ℕ → List ℕ
difference_at source object made stored line =
    head_text source object line (part_of 10 line made) (part_of 10 line stored) (leb (length stored) (common made stored))
    ++ lines_text (part_of 10 line stored) (part_of 10 line made)
    ++ hint_text stored

abbrev pub difference_text : List ℕ → List ℕ → List ℕ → List ℕ → List ℕ
difference_text source object made stored = difference_at source object made stored (line_at made stored)
