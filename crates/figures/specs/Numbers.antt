-- Numbers as the language has them, and with `-` for `_`: "decimal 0 to 2147483647; with `_` directly in front, `_0` to `_2147483648`; or `#` and one or more
-- hexadecimal digits with a value below 2^32, taken as 32 bits".
use Rattle.std.specs.Prelude.{ℕ, ◌+◌, ◌-◌, ◌*◌, ◌%◌, ◌^◌, ◌||◌, ◌&&◌, Option, Some, None, List, [], ◌∷◌, ltb, leb, eqb, length, get_or, drop}
use Rattle.std.specs.Option.{option_map, option_and_then}
use Rattle.base.specs.Choose.{choose}
use Rattle.base.specs.Text.{within}

-- what a digit stands for
abbrev pub digit_of : ℕ → Option ℕ
digit_of b = choose (within 48 57 b) (Some (b - 48)) (choose (within 65 70 b) (Some (b - 65 + 10)) None)

-- the number so far with a digit more; none where the byte is no digit to the base or the number goes past a limit
abbrev pub with_digit : ℕ → ℕ → ℕ → ℕ → Option ℕ
with_digit base limit so_far b =
    option_and_then (λ d. choose (ltb d base && leb (so_far * base + d) limit) (Some (so_far * base + d)) None) (digit_of b)

-- all of a text as digits to a base, after the number so far
unfoldable pub digits : ℕ → ℕ → ℕ → List ℕ → Option ℕ
digits base limit so_far [] = Some so_far
digits base limit so_far (x ∷ xs) = option_and_then (λ n. digits base limit n xs) (with_digit base limit so_far x)

-- one digit or more
abbrev pub whole_number : ℕ → ℕ → List ℕ → Option ℕ
whole_number base limit s = choose (eqb (length s) 0) None (digits base limit 0 s)

abbrev pub minus : Option ℕ → Option ℕ
minus n = option_map (λ v. (2 ^ 32 - v) % 2 ^ 32) n

abbrev pub number_in : List ℕ → Option ℕ
number_in s =
    choose (eqb (get_or s 0 0) 35) (whole_number 16 (2 ^ 32 - 1) (drop 1 s))
    (choose (eqb (get_or s 0 0) 95 || eqb (get_or s 0 0) 45) (minus (whole_number 10 (2 ^ 31) (drop 1 s))) (whole_number 10 (2 ^ 31 - 1) s))
