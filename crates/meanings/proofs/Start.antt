-- Arrays of zeros, with the names around the program, are the tables before a text; so on the tape of a program the walk makes the definition's tables of it.
use mathlib.Core.Path.{◌≡◌, refl, ap, ap₂}
use mathlib.Core.List.{List, [], ◌∷◌}
use Prim.Native.Nat.{ℕ, zero, suc, ◌+◌, ◌≤◌}
use native.Mathlib.Omega.{arith}
use lib.ListN.{replicate, length-replicate}
use Rattle.scopes.specs.Search.{standard_names, first_token}
use Rattle.scopes.proofs.Early.{Early}
use Rattle.grammar.specs.Tree.{Statement}
use Rattle.grammar.specs.Derives.{is_program}
use Rattle.tape.specs.Tape.{tape_statement}
use Rattle.tape.specs.Pass.{pass}
use Rattle.static_rules.specs.Registers.{Registers, no_registers}
use Rattle.static_rules.specs.Meaning.{Meaning, nothing}
use Rattle.static_rules.specs.Meanings.{mean_program, standard}
use Rattle.tables.specs.Packed.{low, packed, number_in, is_register_in, is_routine_in, is_cell_in, is_function_in, unpacked, meanings_from, meanings_of, sets_of}
use Rattle.tables.proofs.Sets.{set-none}
use Rattle.meanings.specs.Along.{mean_event, beginning}
use Rattle.meanings.specs.Flat.{meant_of, standard_meaning, standard_named}
use Rattle.meanings.proofs.Trees.{tabled, Small, meant-program}

blank-means : (n t : ℕ) (bases : List ℕ) → meanings_from t (replicate n 0) bases ≡ replicate n nothing
unfolding meanings_from unpacked is_register_in is_routine_in is_cell_in is_function_in
blank-means zero t bases = refl
blank-means (suc n) t bases = ap (λ (l : List Meaning). nothing ∷ l) (blank-means n (suc t) bases)

blank-sets : (n : ℕ) → sets_of (replicate n 0) ≡ replicate n no_registers
unfolding sets_of
blank-sets zero = refl
blank-sets (suc n) = ap₂ (λ (x : Registers) (l : List Registers). x ∷ l) set-none (blank-sets n)

named-means : (n : ℕ) (bases : List ℕ) → meanings_of (standard_named standard_names (replicate (first_token + n) 0)) bases ≡ (standard n).means
unfolding standard_named standard_meaning meanings_from unpacked packed number_in is_register_in is_routine_in is_cell_in is_function_in low
named-means n bases =
    let e : first_token + n
    ≡ suc (suc (suc (suc (suc (suc (suc (suc (suc (suc (suc (suc (suc (suc (suc (suc (suc (suc (suc (suc (suc (suc (suc (suc (suc (suc n))))))))))))))))))))))))) = omega arith in
    rw e (rw (blank-means n first_token bases))

pub blank : (n : ℕ) (bases : List ℕ) → meant_of (standard_named standard_names (replicate (first_token + n) 0)) bases (replicate (first_token + n) 0) (replicate (first_token + n) 0) 0 ≡ tabled (standard n)
blank n bases =
    ap₂ (λ (m : List Meaning) (w : List Registers). record { means = m; opens = replicate (first_token + n) 0; written = w; cells = []; bases = 0 })
    (named-means n bases) (blank-sets (first_token + n))

-- a program's tape, from arrays of zeros
pub meant-text :
    (kinds values found bases : List ℕ) (n : ℕ) → Small kinds values found → Early found → (x : Statement) (i j : ℕ) → is_program kinds x i j → j ≤ first_token + n
    → (pass (mean_event kinds values found) (beginning (meant_of (standard_named standard_names (replicate (first_token + n) 0)) bases (replicate (first_token + n) 0)
    (replicate (first_token + n) 0) 0)) (tape_statement x [])).meant
    ≡ tabled (mean_program kinds values found x (standard n))
meant-text kinds values found bases n small early x i j h l =
    rw (blank n bases) (meant-program kinds values found small early x i j h (standard n) (omega (arith, length-replicate {A = ℕ} (first_token + n) 0)))
