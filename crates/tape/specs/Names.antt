-- The names at an event of a tape, by its number and its token: those that it declares and those that it uses.
use Rattle.std.specs.Prelude.{List, [], ◌∷◌, ◌++◌, Bool, ◌||◌, ℕ, ◌+◌, ◌-◌, ◌%◌, eqb, ltb}
use Rattle.base.specs.Choose.{whether◌then◌else◌}
use Rattle.tape.specs.Events as E
use Rattle.tape.specs.Numbers.{family_at}

-- the events that declare the name at their token
abbrev pub declaring : ℕ → Bool
declaring op = eqb op E.REGISTER || (eqb op E.ITEM || eqb op E.PROCEDURE)

abbrev pub declares_at : ℕ → ℕ → List ℕ
declares_at op t = whether declaring op then t ∷ [] else []

-- the shape of the name at an event's token; NUMBER where no name stands there or its event uses none
unfoldable pub shape_at : ℕ → ℕ
shape_at op =
    whether eqb op E.BASE then E.ALONE else
    whether eqb op E.CALL then E.ALONE else
    whether eqb op E.APPLIED then E.ALONE else
    whether eqb op E.CHOSEN then E.ALONE else
    whether ltb op E.TARGET then E.NUMBER else
    whether ltb op E.ABS then (op - E.TARGET) % 4 else
    whether ltb op E.FIRST then E.NUMBER else
    whether ltb op E.BARE then (op - E.FIRST) % 5 else
    whether ltb op E.ARGUED then E.NUMBER else
    whether ltb op E.SINGLE-FULL then op - E.ARGUED else
    E.NUMBER

-- how far behind its name an index stands: name(name), name(number)(name)
abbrev pub index_after : ℕ → ℕ
index_after shape = whether eqb shape E.INDEXED then 2 else 5

abbrev pub place_at : ℕ → ℕ → List ℕ
place_at shape t = whether ltb E.SUBSCRIPTED-INDEXED shape then [] else whether ltb shape E.INDEXED then t ∷ [] else t ∷ (t + index_after shape) ∷ []

-- the register that stands before or behind an event's token: a procedure's return register, or what a condition compares
abbrev pub register_at : ℕ → ℕ → List ℕ
register_at op t = whether eqb op E.PROCEDURE then (t + 2) ∷ [] else whether eqb (family_at op) E.COMPARED then (t - 2) ∷ [] else []

abbrev pub uses_at : ℕ → ℕ → List ℕ
uses_at op t = register_at op t ++ place_at (shape_at op) t
