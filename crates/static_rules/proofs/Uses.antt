-- Uses of the standard functions: a wrong count stands at the function's name, before whatever is wrong in its arguments; IC, LA and LTR write their first argument,
-- and no function another. Computed from the table; what holds of each of its rows, and of what takes nothing, holds of all that a name can mean.
use mathlib.Core.Path.{◌≡◌, refl}
use mathlib.Core.List.{List, [], ◌∷◌, map}
use mathlib.Core.Bool.{Bool, true, false}
use Prim.Native.Nat.{ℕ, zero, suc, ◌+◌}
use native.Mathlib.Numerals.{add-one}
use lib.ListN.{get_or}
use borrow.Author.Tests.{ne_eqb}
use Rattle.base.specs.Lists.{All}
use Rattle.base.proofs.Lists.{all_get_d}
use Rattle.scopes.specs.declared.Refusal.TheVariants.{Misfit}
use Rattle.scopes.specs.Broken.{rule, broken}
use Rattle.static_rules.specs.Functions.{Function, Argument, read_register, indexed_cell, plain_cell, surplus, function_table, nine, no_function, function_at, arity, argument_at, is_written}
use Rattle.static_rules.specs.Meaning.{Meaning, nothing, register, cell, routine, function, function_of, argument_of}
use Rattle.static_rules.specs.Rules.{count_by}

pub wrong-count : (k n count : ℕ) → (count ≡ arity (function_at k) → ⊥) → count_by (function k) n count ≡ broken Misfit n
unfolding rule
wrong-count k n count h = rw (ne_eqb count (arity (function_at k)) h)

-- of each function whether it writes its argument at a position
abbrev writes : ℕ → List Bool
writes p = map (λ (k : ℕ). is_written (argument_at (function_at k) p)) nine

-- IC, STC, LA, MVI, CLI, SET, RESET, TEST, LTR
pub first-written : writes 0 ≡ (true ∷ false ∷ true ∷ false ∷ false ∷ false ∷ false ∷ false ∷ true ∷ [])
unfolding function_at
first-written = refl

-- ── by the rows ──

module _ (P : Function → Type 0) (each : All P function_table) (none : P no_function) where
  pub by_row : (k : ℕ) → P (function_at k)
  unfolding function_at
  by_row k = all_get_d P function_table k no_function each none

  pub by-meaning : (m : Meaning) → P (function_of m)
  by-meaning nothing = none
  by-meaning (register r) = none
  by-meaning (cell c) = none
  by-meaning (routine r) = none
  by-meaning (function k) = by_row k

-- no argument behind the first is written
abbrev ReadLater : Function → Type 0
ReadLater g = (p : ℕ) → is_written (argument_at g (suc p)) ≡ false

second-read : (x : Argument) → is_written x ≡ false → (p : ℕ) → is_written (get_or (x ∷ []) p surplus) ≡ false
second-read x e zero = e
second-read x e (suc p) = refl

pub later-read : (m : Meaning) (p : ℕ) → is_written (argument_of m (p + 1)) ≡ false
later-read m p = rw (add-one p) (by-meaning ReadLater (
  second-read indexed_cell refl,
  (
    second-read indexed_cell refl,
    (
      second-read indexed_cell refl,
      (second-read plain_cell refl, (second-read plain_cell refl, ((λ p. refl), ((λ p. refl), ((λ p. refl), (second-read read_register refl, tt)))))),
    ),
  ),
) (λ p. refl) m p)
