-- Document 01, "Numbers answered": number, place and length for each case of the translator's answer, and what is left in the buffer; document 02, 2/13: line and column.
use Rattle.std.specs.Prelude.{List, ℕ, length, Result, Ok, Err}
use Rattle.spots.specs.declared.Spot.{Spot}
use Rattle.spots.specs.Spots.{unplaced}
use Rattle.translation.specs.Translate as T
use Rattle.made.specs.Answers as M
use Rattle.translate.specs.declared.Refused.{Refused}

abbrev pub Answer : Type 0
Answer = Result ℕ Refused

-- number, place with line and column, length, and the buffer
pub record Outcome : Type 0 where
  pub number : ℕ
  pub spot : Spot
  pub length : ℕ
  pub buffer : List ℕ

-- of an answer, with the buffer after it: "Accepted is 0, place 0, bytes written … A refusal has length 0."
abbrev pub number_of : Answer → ℕ
number_of (Ok n) = 0
number_of (Err e) = e.number

abbrev pub spot_of : Answer → Spot
spot_of (Ok n) = unplaced 0
spot_of (Err e) = e.spot

abbrev pub length_of : Answer → ℕ
length_of (Ok n) = n
length_of (Err e) = 0

abbrev pub outcome : Answer → List ℕ → Outcome
outcome r after = record { number = number_of r; spot = spot_of r; length = length_of r; buffer = after }

-- of the definition's answer to a source, with the buffer before it
abbrev pub answered : List ℕ → T.Answer → List ℕ → Outcome
answered source a before = record { number = T.number_of a; spot = T.spot_of source a; length = T.length_of a; buffer = T.leaves a before }

-- of a source and a buffer
abbrev pub defined : (source before : List ℕ) → Outcome
defined source before = answered source (T.translate source (length before)) before

-- the last step: what was made of a source, with the line and the column of its place
abbrev pub stood : List ℕ → M.Answer → Answer
stood source (Ok n) = Ok n
stood source (Err e) = Err (record { number = e.number; spot = T.spot_for source e.number e.place })
