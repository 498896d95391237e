-- Designators, operands and terms by their shape and first token: a subscript stands two tokens behind its name, an index two or five, an operator before its
-- operand.
use Rattle.std.proofs.Math.Option.{Option, none, some}
use Rattle.std.specs.Prelude.{◌||◌, ℕ, ◌+◌, ◌-◌, eqb}
use Rattle.base.specs.Choose.{whether◌then◌else◌}
use Rattle.grammar.specs.Tree.{Designator, Operand, number, place, Term}
use Rattle.tape.specs.Events as E

unfoldable pub subscript_at : (shape t : ℕ) → Option ℕ
subscript_at shape t = whether eqb shape E.SUBSCRIPTED || eqb shape E.SUBSCRIPTED-INDEXED then some (t + 2) else none

unfoldable pub index_at : (shape t : ℕ) → Option ℕ
index_at shape t = whether eqb shape E.INDEXED then some (t + 2) else whether eqb shape E.SUBSCRIPTED-INDEXED then some (t + 5) else none

abbrev pub designator_at : (shape t : ℕ) → Designator
designator_at shape t = record { name = t; subscript = subscript_at shape t; index = index_at shape t }

unfoldable pub operand_at : (shape t : ℕ) → Operand
operand_at shape t = whether eqb shape E.NUMBER then number t else place (designator_at shape t)

abbrev pub term_at : (shape t : ℕ) → Term
term_at shape t = record { operator = t - 1; operand = operand_at shape t }
