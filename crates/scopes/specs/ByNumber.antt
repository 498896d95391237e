-- Broken rules by the numbers of their refusals, whatever numbers these are; 0 is that of none. What rulings say by a type, of 6 to 13 alone, holds of all.
use Rattle.std.specs.Prelude.{Bool, ◌&&◌, ◌||◌, ℕ, eqb, leb, ltb, Some, None}
use Rattle.base.specs.Choose.{whether◌then◌else◌}
use Rattle.scopes.specs.Broken.{refusal_number, Ruling}

-- a refusal's number, and its token
pub record Numbered : Type 0 where
  pub number : ℕ
  pub at : ℕ

-- "the smallest place wins, then the smaller number"
abbrev pub earlier : Numbered → Numbered → Bool
earlier a b = ltb a.at b.at || (eqb a.at b.at && leb a.number b.number)

unfoldable pub joined : Numbered → Numbered → Numbered
joined a b = whether eqb b.number 0 then a else whether eqb a.number 0 then b else whether earlier a b then a else b

-- a ruling by its number
abbrev pub numbered : Ruling → Numbered
numbered None = record { number = 0; at = 0 }
numbered (Some b) = record { number = refusal_number b.refusal; at = b.at }
