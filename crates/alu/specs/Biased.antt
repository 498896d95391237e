-- How the code is worked out without signs: a word's signed reading and 2 ^ 31 is a number from 0 up, and so is a sum of two such.
use Rattle.std.specs.Prelude.{ℕ, ◌+◌, ◌%◌, ◌^◌, ◌==◌, nat_lt}
use Rattle.base.specs.Choose.{choose}

abbrev pub biased : ℕ → ℕ
biased a = (a + 2 ^ 31) % 2 ^ 32

-- the code of the result that is t less 2 ^ 32
abbrev pub code_by : ℕ → ℕ
code_by t = choose (nat_lt t 2147483648) 3 (choose (nat_lt t 4294967296) 1 (choose (t == 4294967296) 0 (choose (nat_lt t 6442450944) 2 3)))
