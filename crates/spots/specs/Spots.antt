-- Document 02, 2/13: where a byte of a text stands. "Each token carries its line and column, both from 1, the column restarting after byte 10."
use Rattle.std.specs.Prelude.{ℕ, ◌+◌, ◌≡◌, false, List, [], ◌∷◌, eqb, take}
use Rattle.base.specs.Choose.{whether◌then◌else◌}
use Rattle.base.specs.Lists.{All}
use Rattle.base.specs.Walk.{fold}
use Rattle.spots.specs.declared.Spot.{Spot}

-- "A place is the offset of the first byte of what is named": with its line and its column
abbrev pub spot : (place line column : ℕ) → Spot
spot place line column = record { place = place; line = line; column = column }

-- behind one byte more, "the column restarting after byte 10"
abbrev pub next_line : ℕ → ℕ → ℕ
next_line line b = whether eqb b 10 then line + 1 else line

abbrev pub next_column : ℕ → ℕ → ℕ
next_column column b = whether eqb b 10 then 1 else column + 1

-- behind some bytes
abbrev pub line_from : ℕ → List ℕ → ℕ
line_from line s = fold next_line line s

abbrev pub column_from : ℕ → List ℕ → ℕ
column_from column s = fold next_column column s

-- "both from 1"
abbrev pub first : Spot
first = spot 0 1 1

-- a place of a text, by the bytes before it; its end is "where the next byte would stand"
abbrev pub spot_at : List ℕ → ℕ → Spot
spot_at s place = spot place (line_from 1 (take place s)) (column_from 1 (take place s))

-- "report line and column 0"
abbrev pub unplaced : ℕ → Spot
unplaced place = spot place 0 0

-- ── by counting, which proofs/Theorems shows to be the same ──

unfoldable pub newlines : List ℕ → ℕ
newlines [] = 0
newlines (b ∷ s) = (whether eqb b 10 then 1 else 0) + newlines s

-- bytes that end no line
abbrev pub NoNewline : List ℕ → Type 0
NoNewline s = All (λ b. eqb b 10 ≡ false) s
