-- The function that a packed meaning is: that of the definition; what holds of each row of the table, and of what takes nothing, holds of it.
use mathlib.Core.Path.{◌≡◌, refl, sym, ap, ◌∙◌}
use Prim.Native.Nat.{ℕ}
use Rattle.base.specs.Lists.{All}
use Rattle.base.proofs.Tests.{cases, by-test, never_true}
use Rattle.static_rules.specs.Functions.{Function, function_table, no_function}
use Rattle.static_rules.specs.Meaning.{Based, function_of}
use Rattle.static_rules.proofs.Uses.{by_row}
use Rattle.tables.specs.Packed.{number_in, is_function_in, unpacked}
use Rattle.tables.proofs.Meanings.{by-sort, as_function}
use Rattle.functions.specs.Arguments.{function_in}

pub meant_is : (n m : ℕ) (b : Based) → function_of (unpacked n m b) ≡ function_in m
unfolding function_in
meant_is n m b =
    cases (is_function_in m) (λ q. ap function_of (as_function n m b q) ∙ rw q)
    (λ q. rw q (by-sort (λ x. function_of x ≡ no_function) n m b (λ e. refl) (λ e f. refl) (λ e f g. refl) (λ e f g h. never_true (sym q ∙ h)) (λ e f g h. refl)))

pub by-function : (P : Function → Type 0) → All P function_table → P no_function → (m : ℕ) → P (function_in m)
unfolding function_in
by-function P each none m = by-test P (is_function_in m) _ _ (λ e. by_row P each none (number_in m)) (λ e. none)
