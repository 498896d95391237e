-- A number in decimal at the front of a text.
use Rattle.std.specs.Prelude.{◌≡◌, ℕ, ◌-◌, ◌^◌, ◌≤◌, min, Bool, List, length, take}
use Rattle.base.specs.Text.{within}
use Rattle.base.specs.Runs.{run_len}
use Rattle.base.specs.Numbers.{number_from}
use Rattle.lines.specs.declared.decimal.Number.{Number}

abbrev pub is_digit : ℕ → Bool
is_digit b = within 48 57 b

abbrev pub digit_of : ℕ → ℕ
digit_of b = b - 48

-- all digits at the front, and their number, cut off at the largest of 64 bits
pub record Numbered (s : List ℕ) (n : Number) : Type 0 where
  pub size : n.size ≡ run_len is_digit s
  pub value : n.value ≡ min (2 ^ 64 - 1) (number_from digit_of 10 0 (take n.size s))
  pub fits : n.size ≤ length s
