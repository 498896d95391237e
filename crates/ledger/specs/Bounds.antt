-- Tapes that there is room for: token numbers of 16 bits where a pass writes them down, and blocks and procedures no deeper than the stacks that are lent.
use Rattle.std.specs.Prelude.{◌≡◌, List, [], ◌∷◌, Bool, true, ◌||◌, ℕ, suc, ◌-◌, ◌/◌, ◌%◌, ◌≤◌, ◌<◌, eqb}
use Rattle.base.specs.Choose.{whether◌then◌else◌}
use Rattle.base.specs.Lists.{All}
use Rattle.tape.specs.Events as E
use Rattle.tape.specs.Names.{declaring}
use Rattle.ledger.specs.Book.{thin_limit}

-- blocks, labels and declared names are written down by their tokens
abbrev pub noted : ℕ → Bool
noted op = eqb op E.BLOCK || (eqb op E.LABEL || declaring op)

abbrev pub Narrow : List ℕ → Type 0
Narrow tape = All (λ (e : ℕ). noted (e % E.EVENTS) ≡ true → e / E.EVENTS < thin_limit) tape

-- how many blocks, and how many procedures, are open after an event
abbrev pub level : (opening closing op d : ℕ) → ℕ
level opening closing op d = whether eqb op opening then suc d else whether eqb op closing then d - 1 else d

abbrev pub blocks_open : (op d : ℕ) → ℕ
blocks_open op d = level E.BLOCK E.END-BLOCK op d

abbrev pub procedures_open : (op d : ℕ) → ℕ
procedures_open op d = level E.PROCEDURE E.END-PROCEDURE op d

-- so many blocks and so many procedures are open, and never more than the most
unfoldable pub Nested : (most blocks procedures : ℕ) → List ℕ → Type 0
Nested most b p [] = (b ≤ most) × (p ≤ most)
Nested most b p (e ∷ es) = (b ≤ most) × (p ≤ most) × Nested most (blocks_open (e % E.EVENTS) b) (procedures_open (e % E.EVENTS) p) es
