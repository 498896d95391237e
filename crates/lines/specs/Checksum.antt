-- The checksum FNV-1a of 64 bits.
use Rattle.std.specs.Prelude.{ℕ, ◌*◌, ◌%◌, ◌^◌, List, bit_xor}
use Rattle.base.specs.Walk.{fold}

abbrev pub prime : ℕ
prime = 1099511628211

abbrev pub mixed : ℕ → ℕ → ℕ
mixed h b = bit_xor h b * prime % 2 ^ 64

unfoldable pub checksum : List ℕ → ℕ
checksum s = fold mixed 14695981039346656037 s
