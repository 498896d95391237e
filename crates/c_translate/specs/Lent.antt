-- Document 01, "Numbers answered": "Translator: number, place, length", document 02, 2/13: line and column, as they stand in lent memory; and what is left in the buffer.
use Rattle.std.specs.Prelude.{◌≡◌, List, [], ◌∷◌, ℕ, ◌≤◌, length, get_or}
use Rattle.spots.specs.declared.Spot.{Spot}
use Rattle.spots.specs.Spots.{spot}
use Rattle.translate.specs.Answers.{Outcome, defined}

-- place, line, column and length, one after the other
abbrev pub parts_of : Spot → ℕ → List ℕ
parts_of p size = p.place ∷ p.line ∷ p.column ∷ size ∷ []

-- the number answered, and what stands in the four numbers and the buffer after the call
abbrev pub lent : ℕ → List ℕ → List ℕ → Outcome
lent number answer buffer =
    record { number = number; spot = spot (get_or answer 0 0) (get_or answer 1 0) (get_or answer 2 0); length = get_or answer 3 0; buffer = buffer }

-- are what the definition says of the source and the buffer before it; what is written fits the buffer
pub record Lent (source before after : List ℕ) (number : ℕ) (answer : List ℕ) : Type 0 where
  pub is : lent number answer after ≡ defined source before
  pub fits : get_or answer 3 0 ≤ length before
