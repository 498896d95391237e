-- A stop 2 or 3 in the words of the source that was run: where, the line, the operand as it is written, and its address.
--     survey.pl360:12:9: stop 2: a forbidden operand
--       R1 := TABLE(R2);
--             ^^^^^^^^^ address 12288 is in no data segment
use Rattle.std.specs.Prelude.{ℕ, ◌+◌, ◌-◌, ◌/◌, ◌%◌, min, List, ◌++◌, eqb, ltb, drop, replicate}
use Rattle.base.specs.Choose.{choose}
use Rattle.base.specs.Text.{bytes}
use Rattle.spots.specs.Spots.{spot_at}
use Rattle.figures.specs.Parts.{part_length, filled}
use Rattle.excerpts.specs.Lines.{shown_before, shown_line, place_text, line_text}
use Rattle.reports.specs.Reports.{stops, told_text}

-- why, by the stop and the opcode: 40, 42, 50 and 92 store, and what reads ends with 3 or more; of 40 to 4F those of half words can be misaligned; `%` stands
-- for the address
abbrev pub reason_for : (stop opcode : ℕ) → List ℕ
reason_for stop opcode =
    choose (eqb stop 3)
    (choose (eqb (opcode / 16) 4) (bytes " address % is no multiple of 2") (bytes " address % is no multiple of 4"))
    (choose (ltb (opcode % 16) 3) (bytes " address % is in no cell that may be written") (bytes " address % is in no data segment"))

-- as much of the operand as stands in its line, 40 bytes at most
abbrev pub wide_for : (from to : ℕ) → (text : List ℕ) → ℕ
wide_for from to text = min (min 39 (to - from) + 1) (part_length 10 (drop from text))

abbrev pub head_text : List ℕ → (stop line column : ℕ) → List ℕ
head_text file stop line column = place_text file line column ++ bytes ": " ++ told_text (bytes "stop ") stop stops

abbrev pub under_text : (before wide address : ℕ) → List ℕ → List ℕ
under_text before wide address why = replicate before 32 ++ replicate wide 94 ++ filled address why ++ bytes "\n"

abbrev pub lines_text : (from to address : ℕ) → (why text : List ℕ) → (column : ℕ) → List ℕ
lines_text from to address why text column = line_text (shown_line text from column) ++ under_text (shown_before column) (wide_for from to text) address why

-- the operand stands from `from` on in the text, its last token at `to`
abbrev pub halt_text : List ℕ → (stop from to address opcode : ℕ) → List ℕ → List ℕ
halt_text file stop from to address opcode text =
    let p = spot_at text from in
    head_text file stop p.line p.column ++ lines_text from to address (reason_for stop opcode) text p.column
