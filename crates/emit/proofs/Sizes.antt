-- The sizes of instructions: of lists of them, and of the definition's. Assumes nothing.
use mathlib.Core.Path.{◌≡◌, refl, ap, ap₂, ◌∙◌}
use mathlib.Core.List.{List, [], ◌∷◌, ◌++◌}
use Prim.Native.Nat.{ℕ, ◌+◌}
use native.Mathlib.Omega.{arith}
use Rattle.translation.specs.Instructions.{element, literal, entry, Datum, Instruction, rr, rx, address, immediate, shift, branch, link, indexed, stop, size, sizes}
use Rattle.emit.specs.declared.Code.{Code}
use Rattle.emit.specs.Codes.{code_size, code_sizes}
use Rattle.emit.specs.Along.{code_at, code_for}
use Rattle.emit.proofs.Operands.{offset_at}
use Rattle.emit.proofs.Written.{coded, tested}

pub sizes-append : (a b : List Code) → code_sizes (a ++ b) ≡ code_sizes a + code_sizes b
sizes-append [] b = omega arith
sizes-append (c ∷ a) b = omega (arith, sizes-append a b)

four_bytes : (place : ℕ → ℕ) (op r x : ℕ) (a : Datum) → code_size (code_at place op r x a) ≡ 4
unfolding code_size
four_bytes place op r x (element c o i) = refl
four_bytes place op r x (literal v) = refl
four_bytes place op r x (entry k) = refl

size_is : (place : ℕ → ℕ) (i : Instruction) → code_size (code_for place i) ≡ size i
unfolding code_size code_for
size_is place (rr op r s) = refl
size_is place (rx op r a) = four_bytes place op r _ a
size_is place (address r a) = four_bytes place _ r _ a
size_is place (immediate op v a) = four_bytes place op _ _ a
size_is place (shift op r s n) = refl
size_is place (branch m t) = refl
size_is place (link r t) = refl
size_is place (indexed r t) = refl
size_is place stop = refl

pub coded-sizes : (offsets : List ℕ) (is : List Instruction) → code_sizes (coded offsets is) ≡ sizes is
coded-sizes offsets [] = refl
coded-sizes offsets (i ∷ is) = ap₂ (λ (x y : ℕ). x + y) (size_is (offset_at offsets) i) (coded-sizes offsets is)

pub tested-size : (offsets : List ℕ) (is : List Instruction) (mask to : ℕ) → code_sizes (tested offsets is mask to) ≡ sizes is + 4
unfolding code_size code_for
tested-size offsets is mask to = sizes-append (coded offsets is) _ ∙ ap (λ (n : ℕ). n + 4) (coded-sizes offsets is)
