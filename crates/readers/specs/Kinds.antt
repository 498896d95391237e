-- The kinds of tokens.
use Rattle.std.specs.Prelude.{◌≡◌, List, ℕ, ◌+◌, ◌-◌, ◌<◌, length, get_or}

-- the kind at i; a kind other than 0 is that of a token
pub record Kind (ks : List ℕ) (i k : ℕ) : Type 0 where
  pub is : k ≡ get_or ks i 0
  pub within : i < length ks + (1 - k)
