-- A place as a message begins with it, the part of its line that is shown, and what is underlined.
use Rattle.std.specs.Prelude.{ℕ, ◌-◌, min, max, Bool, ◌||◌, List, ◌++◌, map, eqb, length, take, drop}
use Rattle.std.specs.List.{prefix_len}
use Rattle.base.specs.Choose.{choose}
use Rattle.base.specs.Text.{bytes, within}
use Rattle.figures.specs.Digits.{decimal}
use Rattle.figures.specs.Parts.{first_part}

-- at most 60 bytes of the line before the place are shown, and at most 100 in all
abbrev pub shown_before : (column : ℕ) → ℕ
shown_before column = min 60 (column - 1)

-- a byte as it is shown: a blank for TAB, `?` for any other byte that is not printed
abbrev pub visible : ℕ → ℕ
visible b = choose (within 32 126 b) b (choose (eqb b 9) 32 63)

abbrev pub visibles : List ℕ → List ℕ
visibles line = map visible line

abbrev pub shown_line : List ℕ → (place column : ℕ) → List ℕ
shown_line text place column = take 100 (first_part 10 (drop (place - shown_before column) text))

-- the word or number that begins at the place
abbrev pub in_word : ℕ → Bool
in_word b = (within 65 90 b || within 48 57 b) || (eqb b 95 || eqb b 35)

abbrev pub word_of : List ℕ → List ℕ
word_of s = take (min 40 (prefix_len in_word s)) s

abbrev pub word_at : List ℕ → ℕ → List ℕ
word_at text place = word_of (drop place text)

-- what is underlined: the word, or one byte
abbrev pub wide_at : List ℕ → ℕ → ℕ
wide_at text place = max 1 (length (word_at text place))

-- a place as a message begins with it, and a line as it is shown
abbrev pub place_text : List ℕ → ℕ → ℕ → List ℕ
place_text file line column = file ++ bytes ":" ++ decimal line ++ bytes ":" ++ decimal column

abbrev pub line_text : List ℕ → List ℕ
line_text line = visibles line ++ bytes "\n"
