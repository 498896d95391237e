-- Refusals by their numbers.
use Rattle.std.specs.Prelude.{ℕ}
use Rattle.readers.specs.declared.tokens.Why.{Why}
use Rattle.readers.specs.declared.tokens.Why.TheVariants.{Unexpected, TooDeep}

-- "4 … no program begins with the tokens up to here"; "5 …" constructs too deep inside each other
abbrev pub number_of : Why → ℕ
number_of Unexpected = 4
number_of TooDeep = 5
