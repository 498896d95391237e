-- Designators and operands are the parts that their shape and first token tell.
use mathlib.Core.Path.{◌≡◌, refl, ap}
use mathlib.Core.Option.{Option, none, some}
use Prim.Native.Nat.{ℕ}
use Rattle.grammar.specs.Tree.{Designator, Operand, number, place}
use Rattle.grammar.specs.Pinned.{head_of, ShapePinned, DesignatorPinned, OperandPinned}
use Rattle.tape.specs.Tape.{shape_by, shape}
use Rattle.tape.specs.Written.{operand_shape}
use Rattle.rules.specs.Parts.{subscript_at, index_at, designator_at, operand_at}

shape_at : (n : ℕ) (s x : Option ℕ) → ShapePinned n s x → designator_at (shape_by s x) n ≡ record { name = n; subscript = s; index = x }
unfolding subscript_at index_at
shape_at n none none h = refl
shape_at n (some s) none h = rw h
shape_at n none (some x) h = rw h
shape_at n (some s) (some x) h = rw (h.0, h.1)

pub designator-at : (d : Designator) → DesignatorPinned d → designator_at (shape d) d.name ≡ d
unfolding DesignatorPinned
designator-at d h = shape_at d.name d.subscript d.index h

place_at : (n : ℕ) (s x : Option ℕ) → ShapePinned n s x → operand_at (shape_by s x) n ≡ place (record { name = n; subscript = s; index = x })
unfolding operand_at
place_at n none none h = ap place (shape_at n none none h)
place_at n (some s) none h = ap place (shape_at n (some s) none h)
place_at n none (some x) h = ap place (shape_at n none (some x) h)
place_at n (some s) (some x) h = ap place (shape_at n (some s) (some x) h)

pub operand-at : (a : Operand) → OperandPinned a → operand_at (operand_shape a) (head_of a) ≡ a
unfolding OperandPinned DesignatorPinned operand_at
operand-at (number t) h = refl
operand-at (place d) h = place_at d.name d.subscript d.index h
