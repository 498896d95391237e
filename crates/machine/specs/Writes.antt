-- The registers that an instruction writes, by its kind and its register field.
use Rattle.std.specs.Prelude.{List, [], ◌∷◌, ℕ, ◌+◌}
use Rattle.machine.specs.declared.Fun.{Fun}
use Rattle.machine.specs.declared.Fun.TheVariants.{Load, Add, Subtract, AddLogical, SubtractLogical, And, Or, ExclusiveOr, Compare, Positive, Negative, Complement, MultiplyHalf, Insert, Test}
use Rattle.machine.specs.Instructions.{Short, applies, multiplies, branches, ends, unlisted, Long, applies_to, multiplies_by, stores, branches_to, links, shifts, addresses, moves, compares, unlisted_long}

-- a comparison leaves its register as it was
abbrev pub writes_by : Fun → ℕ → List ℕ
writes_by Load r = r ∷ []
writes_by Add r = r ∷ []
writes_by Subtract r = r ∷ []
writes_by AddLogical r = r ∷ []
writes_by SubtractLogical r = r ∷ []
writes_by And r = r ∷ []
writes_by Or r = r ∷ []
writes_by ExclusiveOr r = r ∷ []
writes_by Compare r = []
writes_by Positive r = r ∷ []
writes_by Negative r = r ∷ []
writes_by Complement r = r ∷ []
writes_by MultiplyHalf r = r ∷ []
writes_by Insert r = r ∷ []
writes_by Test r = r ∷ []

-- a product takes two registers
abbrev pub writes_short : Short → ℕ → List ℕ
writes_short (applies f) r = writes_by f r
writes_short multiplies r = r ∷ (r + 1) ∷ []
writes_short branches r = []
writes_short ends r = []
writes_short unlisted r = []

abbrev pub writes_long : Long → ℕ → List ℕ
writes_long (applies_to n f) r = writes_by f r
writes_long multiplies_by r = r ∷ (r + 1) ∷ []
writes_long (stores n) r = []
writes_long branches_to r = []
writes_long links r = r ∷ []
writes_long (shifts f) r = r ∷ []
writes_long addresses r = r ∷ []
writes_long moves r = []
writes_long compares r = []
writes_long unlisted_long r = []
