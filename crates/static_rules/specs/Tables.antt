-- What is known of a text's tokens when the whole text has been read: the tables that the rules and the code are made by.
use Rattle.std.specs.Prelude.{List, ℕ, get_or}
use Rattle.static_rules.specs.Registers.{Registers}
use Rattle.static_rules.specs.Meaning.{Meaning, meaning_of}

-- the tables by token: kinds and values of tokens, declarations found, labels found, meanings, segments opened, registers written
pub record Tables : Type 0 where
  pub kinds : List ℕ
  pub values : List ℕ
  pub found : List ℕ
  pub goes : List ℕ
  pub means : List Meaning
  pub opens : List ℕ
  pub written : List Registers

abbrev pub kind_at : Tables → ℕ → ℕ
kind_at f t = get_or f.kinds t 0

abbrev pub value_at : Tables → ℕ → ℕ
value_at f t = get_or f.values t 0

abbrev pub meaning_at : Tables → ℕ → Meaning
meaning_at f t = meaning_of f.found f.means t
