-- Arithmetic on 32-bit words with the condition code, as IBM's Principles of Operation gives it. A word is a number below 2 ^ 32; `signed` is what it
-- says in two's complement. Document 01: "sums wrap at 32 bits and set the code as IBM says", "program mask zero".
use Rattle.std.specs.Prelude.{ℕ, suc, ◌+◌, ◌-◌, ◌*◌, ◌/◌, ◌%◌, ◌^◌, ℤ, pos, negsuc, ◌+ℤ◌, ◌-ℤ◌, ◌*ℤ◌, neg_ℤ, ◌==◌, nat_lt, unsigned_abs}
use Rattle.std.specs.Int.Signed.{mag, shr_z}
use Rattle.std.specs.Int.{w32}
use Rattle.std.proofs.Common.{to_z}
use Rattle.base.specs.Choose.{choose}
use Rattle.alu.specs.declared.Made.{Made}

-- the logic's own reading of 32 bits as signed
abbrev pub signed : ℕ → ℤ
signed n = to_z w32 n

-- the low k bits of a number, negative numbers in two's complement
abbrev pub low_bits : ℕ → ℤ → ℕ
low_bits k (pos n) = n % 2 ^ k
low_bits k (negsuc n) = 2 ^ k - suc (n % 2 ^ k)

-- 0 zero, 1 below zero, 2 above zero
abbrev pub sign_code : ℤ → ℕ
sign_code (pos n) = choose (n == 0) 0 2
sign_code (negsuc n) = 1

-- the code of a signed result: 3, overflow, where it is not in the range of 32 bits
abbrev pub result_code : ℤ → ℕ
result_code z = choose (nat_lt (mag z) (2 ^ 31)) (sign_code z) 3

-- a signed result: the sum wraps, the code tells of it
abbrev pub settled : ℤ → Made
settled z = record { value = low_bits 32 z; code = result_code z }

abbrev pub added : ℕ → ℕ → Made
added a b = settled (signed a +ℤ signed b)

abbrev pub subtracted : ℕ → ℕ → Made
subtracted a b = settled (signed a -ℤ signed b)

abbrev pub complemented : ℕ → Made
complemented b = settled (neg_ℤ (signed b))

abbrev pub made_positive : ℕ → Made
made_positive b = settled (pos (unsigned_abs (signed b)))

abbrev pub made_negative : ℕ → Made
made_negative b = settled (neg_ℤ (pos (unsigned_abs (signed b))))

abbrev pub compared_code : ℕ → ℕ → ℕ
compared_code a b = sign_code (signed a -ℤ signed b)

-- LOAD AND TEST: the word unchanged; "the sign and magnitude" of it determine the code, 0, 1 or 2
abbrev pub tested : ℕ → Made
tested b = record { value = b; code = sign_code (signed b) }

-- COMPARE LOGICAL: both as numbers without sign; 0 equal, 1 "first operand is low", 2 "first operand is high"
abbrev pub compared_logical : ℕ → ℕ → ℕ
compared_logical a b = choose (nat_lt a b) 1 (choose (a == b) 0 2)

-- INSERT CHARACTER: the byte stands in the last eight bits of the word, "the remaining bits … remain unchanged"
abbrev pub inserted : ℕ → ℕ → ℕ
inserted a b = a / 2 ^ 8 * 2 ^ 8 + b % 2 ^ 8

-- 0 zero, 1 not zero
abbrev pub zero_code : ℕ → ℕ
zero_code v = choose (v == 0) 0 1

-- an unsigned sum: the code is 2 more with a carry
abbrev pub carried : ℕ → Made
carried n = record { value = n % 2 ^ 32; code = zero_code (n % 2 ^ 32) + choose (nat_lt n (2 ^ 32)) 0 2 }

abbrev pub added_logical : ℕ → ℕ → Made
added_logical a b = carried (a + b)

-- the complement of the second operand and one are added
abbrev pub subtracted_logical : ℕ → ℕ → Made
subtracted_logical a b = carried (a + (2 ^ 32 - b))

-- AND, OR and exclusive OR
abbrev pub bits_made : ℕ → Made
bits_made v = record { value = v; code = zero_code v }

-- how far a word's signed reading is from zero
abbrev pub distance_of : ℕ → ℕ
distance_of a = unsigned_abs (signed a)

-- the 64 bits of the product of the signed readings
abbrev pub product : ℕ → ℕ → ℕ
product a b = low_bits 64 (signed a *ℤ signed b)

-- the low 32 bits of the product with a half word
abbrev pub half_product : ℕ → ℕ → ℕ
half_product a b = low_bits 32 (signed a *ℤ signed b)

abbrev pub shifted_left_logical : ℕ → ℕ → ℕ
shifted_left_logical a n = a * 2 ^ n % 2 ^ 32

abbrev pub shifted_right_logical : ℕ → ℕ → ℕ
shifted_right_logical a n = a / 2 ^ n

-- the sign stays and 31 bits are shifted; the code is that of the exact product
unfoldable pub shifted_left : ℕ → ℕ → Made
shifted_left a n = record { value = a / 2 ^ 31 * 2 ^ 31 + a * 2 ^ n % 2 ^ 31; code = result_code (signed a *ℤ pos (2 ^ n)) }

-- copies of the sign come in
unfoldable pub shifted_right : ℕ → ℕ → Made
shifted_right a n = settled (shr_z (signed a) (2 ^ n))
