-- Parts of a text that a separator stands between: lines, words, entries of a table.
use Rattle.std.specs.Prelude.{ℕ, ◌-◌, true, false, List, [], ◌∷◌, ◌++◌, eqb, take, get_or, count_by}
use Rattle.std.specs.List.{position_or_len}
use Rattle.base.specs.Choose.{choose}
use Rattle.figures.specs.Digits.{decimal}

-- how many separators are still to come behind a byte
abbrev pub left_after : ℕ → ℕ → ℕ → ℕ
left_after b sep left = choose (eqb b sep) (left - 1) left

-- what comes behind the first n separators
unfoldable pub behind : ℕ → ℕ → List ℕ → List ℕ
behind sep n [] = []
behind sep n (x ∷ xs) = elim (eqb n 0) [ true ↦ x ∷ xs | false ↦ behind sep (left_after x sep n) xs ]

-- how many bytes stand before the next separator
abbrev pub part_length : ℕ → List ℕ → ℕ
part_length sep s = position_or_len (λ b. eqb b sep) s

abbrev pub first_part : ℕ → List ℕ → List ℕ
first_part sep s = take (part_length sep s) s

-- the part with the number n, counted from 0; none where there are not so many
abbrev pub part_of : ℕ → ℕ → List ℕ → List ℕ
part_of sep n s = first_part sep (behind sep n s)

-- how many separators there are
abbrev pub part_count : ℕ → List ℕ → ℕ
part_count sep s = count_by (λ b. eqb b sep) s

-- a phrase with a number put for each `%`
abbrev pub shown : ℕ → ℕ → List ℕ
shown n b = choose (eqb b 37) (decimal n) (b ∷ [])

unfoldable pub filled : ℕ → List ℕ → List ℕ
filled n [] = []
filled n (x ∷ xs) = shown n x ++ filled n xs

-- the text with the number n of a table, counted from 0; none where there are not so many
abbrev pub entry_of : List (List ℕ) → ℕ → List ℕ
entry_of texts n = get_or texts n []
