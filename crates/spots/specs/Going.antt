-- How the code goes from one place of a text to another. Nobody has to believe it: proofs/Theorems ties it to the bytes.
use Rattle.std.specs.Prelude.{ℕ, ◌+◌, ◌-◌, ◌≤◌, eqb}
use Rattle.base.specs.Choose.{whether◌then◌else◌}
use Rattle.spots.specs.Spots.{spot}
use Rattle.spots.specs.declared.Spot.{Spot}

-- a place of a text of at most 2^32 bytes
pub record Near (a : Spot) : Type 0 where
  pub place : a.place ≤ 4294967296
  pub some-line : 1 ≤ a.line
  pub line : a.line ≤ a.place + 1
  pub some-column : 1 ≤ a.column
  pub column : a.column ≤ a.place + 1

-- b is counted from a
abbrev pub onward : Spot → Spot → Spot
onward a b =
    whether eqb b.line 1 then spot (a.place + b.place) a.line (a.column + b.column - 1) else
    spot (a.place + b.place) (a.line + b.line - 1) b.column

-- n bytes on, none of which ends a line
abbrev pub along : Spot → ℕ → Spot
along a n = spot (a.place + n) a.line (a.column + n)
