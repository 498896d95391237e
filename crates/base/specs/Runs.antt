-- Runs: how many elements at the front of a list pass a test (`run_len`), and the place of a number in a table (`index_of`).
use Rattle.std.specs.Prelude.{ℕ, suc, Bool, true, false, not, List, [], ◌∷◌, eqb}

unfoldable pub run_len : (ℕ → Bool) → List ℕ → ℕ
run_len p [] = 0
run_len p (x ∷ xs) = elim (p x) [ true ↦ suc (run_len p xs) | false ↦ 0 ]

-- the table's length where the number is not in it
abbrev pub index_of : ℕ → List ℕ → ℕ
index_of k t = run_len (λ x. not (eqb x k)) t
