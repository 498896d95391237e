-- An argument is told by what the code has for it; no function takes more than two.
use mathlib.Core.Path.{◌≡◌, refl, sym}
use Prim.Native.Nat.{ℕ, ◌≤◌}
use native.Mathlib.Omega.{arith}
use lib.ListN.{get_or-eq_default}
use Rattle.static_rules.specs.Functions.{Argument, written_register, read_register, byte_number, indexed_cell, plain_cell, surplus}
use Rattle.static_rules.specs.Functions.{Function, arity, argument_at}
use Rattle.functions.specs.Arguments.{argument_by, coded_argument, function_in}
use Rattle.functions.proofs.Packed.{by-function}

pub by_code : (x : Argument) → argument_by (coded_argument x) ≡ x
by_code written_register = refl
by_code read_register = refl
by_code byte_number = refl
by_code indexed_cell = refl
by_code plain_cell = refl
by_code surplus = refl

few : (m : ℕ) → arity (function_in m) ≤ 2
few m =
    let two : 2 ≤ 2 = omega arith in let one : 1 ≤ 2 = omega arith in
    by-function (λ (g : Function). arity g ≤ 2) (two, (two, (two, (two, (two, (one, (one, (one, (two, tt))))))))) (omega arith) m

pub no_third : (m p : ℕ) → 2 ≤ p → surplus ≡ argument_at (function_in m) p
no_third m p h = let e = few m in sym (get_or-eq_default (function_in m).takes surplus {n = p} (omega arith))
