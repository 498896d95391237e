-- Numbers in digits: decimal, with a minus sign where they are read as signed, and hexadecimal in capitals.
use Rattle.std.specs.Prelude.{ℕ, zero, suc, ◌-◌, ◌/◌, ◌%◌, ◌^◌, true, false, ◌&&◌, List, [], ◌∷◌, ◌++◌, ltb, get_or}
use Rattle.base.specs.Choose.{choose}
use Rattle.base.specs.Text.{bytes}

abbrev pub digit : ℕ → ℕ
digit d = get_or (bytes "0123456789ABCDEF") d 0

-- a number to a base in at most k places, and in at least so many
unfoldable pub numeral : ℕ → ℕ → ℕ → ℕ → List ℕ
numeral base least zero n = []
numeral base least (suc k) n =
    elim (ltb n base && ltb least 2) [
      | true ↦ digit (n % base) ∷ []
      | false ↦ numeral base (least - 1) k (n / base) ++ (digit (n % base) ∷ [])
    ]

-- 20 places hold every number of 64 bits
abbrev pub decimal : ℕ → List ℕ
decimal n = numeral 10 1 20 n

-- the 32 bits read as a signed number
abbrev pub signed : ℕ → List ℕ
signed n = choose (ltb n (2 ^ 31)) (decimal n) (45 ∷ decimal (2 ^ 32 - n))

abbrev pub hexadecimal : ℕ → List ℕ
hexadecimal n = numeral 16 8 8 n
