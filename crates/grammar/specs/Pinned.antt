-- What stands at fixed distances in a designator and an operand: a subscript two tokens after its name, an index two or five. It holds of each that is derived
-- (proofs/Pinned), so that a pass that is handed the first token knows the others.
use Rattle.std.specs.Prelude.{◌≡◌, ℕ, ◌+◌}
use Rattle.std.proofs.Math.Option.{Option, none, some}
use Rattle.grammar.specs.Tree.{Designator, Operand, number, place}

abbrev Free : Type 0
Free = Unit {0}

-- the token that an operand begins with
abbrev pub head_of : Operand → ℕ
head_of (number t) = t
head_of (place d) = d.name

-- "name, name(number), name(name), name(number)(name)"
abbrev pub ShapePinned : (name : ℕ) (subscript index : Option ℕ) → Type 0
ShapePinned n none none = Free
ShapePinned n (some s) none = s ≡ n + 2
ShapePinned n none (some x) = x ≡ n + 2
ShapePinned n (some s) (some x) = (s ≡ n + 2) × (x ≡ n + 5)

unfoldable pub DesignatorPinned : Designator → Type 0
DesignatorPinned d = ShapePinned d.name d.subscript d.index

unfoldable pub OperandPinned : Operand → Type 0
OperandPinned (number t) = Free
OperandPinned (place d) = DesignatorPinned d
