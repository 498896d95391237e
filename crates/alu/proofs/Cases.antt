-- What the functions of bytes make, in cases of IBM's by computation: IC leaves 24 bits, CLI goes by unsigned numbers, LTR never sees an overflow. Assumes nothing.
use Rattle.std.proofs.Common.{◌≡◌, ℕ, refl}
use Rattle.alu.specs.Word.{tested, compared_logical, inserted}
use Rattle.alu.specs.declared.Made.{Made}

abbrev makes : ℕ → ℕ → Made
makes v k = record { value = v; code = k }

pub insert-leaves : inserted 0x11223344 0xab ≡ 0x112233ab
insert-leaves = refl

pub compare-low : compared_logical 3 5 ≡ 1
compare-low = refl

pub compare-high : compared_logical 0x80 0x7f ≡ 2
compare-high = refl

pub test_zero : tested 0 ≡ makes 0 0
test_zero = refl

pub test-smallest : tested 0x80000000 ≡ makes 0x80000000 1
test-smallest = refl

pub test-greatest : tested 0x7fffffff ≡ makes 0x7fffffff 2
test-greatest = refl
