-- What is said of a text, as it stands in lent memory: place, line and column (document 02, 2/13), then the count of tokens.
use Rattle.std.specs.Prelude.{◌≡◌, List, [], ◌∷◌, ℕ, get_or}
use Rattle.spots.specs.declared.Spot.{Spot}
use Rattle.spots.specs.Spots.{spot}
use Rattle.token.specs.Text.{Reading}
use Rattle.token.specs.Answers.{Summary, summary, summed, Lists, laid_over}
use Rattle.parse.specs.Programs.{Judged, says}

-- a place of a text
abbrev pub spot_in : List ℕ → Spot
spot_in told = spot (get_or told 0 0) (get_or told 1 0) (get_or told 2 0)

-- the number answered, and what stands there after the call: of tokens
abbrev pub summary_in : ℕ → List ℕ → Summary
summary_in number told = summary number (spot_in told) (get_or told 3 0)

-- of a text's grammar
abbrev pub judged_in : ℕ → List ℕ → Judged
judged_in number told = says number (spot_in told)

-- what is put there of tokens
abbrev pub parts_of : Summary → List ℕ
parts_of s = s.spot.place ∷ s.spot.line ∷ s.spot.column ∷ s.count ∷ []

-- the answer is what is said of a reading, and its tokens are laid over the lists
pub record Lent (r : Reading) (before after : Lists) (number : ℕ) (told : List ℕ) : Type 0 where
  pub is : summary_in number told ≡ summed r
  pub are-laid : after ≡ laid_over r.tokens before
