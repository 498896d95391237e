-- Sets of registers: sixteen flags, zero or one, by register. A procedure's written registers only grow and are joined to those of others, so the sets of
-- definition and code are flags; protected registers come and go with blocks and bodies, so they are a list, the innermost first.
use Rattle.std.specs.Prelude.{List, [], ◌∷◌, map, Bool, true, false, ◌&&◌, ◌||◌, not, ℕ, eqb, get_or}
use Rattle.base.specs.Choose.{whether◌then◌else◌}

abbrev pub Registers : Type 0
Registers = List ℕ

abbrev pub sixteen : List ℕ
sixteen = 0 ∷ 1 ∷ 2 ∷ 3 ∷ 4 ∷ 5 ∷ 6 ∷ 7 ∷ 8 ∷ 9 ∷ 10 ∷ 11 ∷ 12 ∷ 13 ∷ 14 ∷ 15 ∷ []

-- the registers that pass a test
unfoldable pub flags : (ℕ → Bool) → Registers
flags test = map (λ (r : ℕ). whether test r then 1 else 0) sixteen

unfoldable pub has : Registers → ℕ → Bool
has s r = eqb (get_or s r 0) 1

abbrev pub no_registers : Registers
no_registers = flags (λ r. false)

unfoldable pub add_register : ℕ → Registers → Registers
add_register x s = flags (λ r. eqb r x || has s r)

unfoldable pub union : Registers → Registers → Registers
union s t = flags (λ r. has s r || has t r)

-- none of the listed registers is in the set
unfoldable pub spares : Registers → List ℕ → Bool
spares s [] = true
spares s (r ∷ rs) = not (has s r) && spares s rs
