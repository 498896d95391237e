-- What stands at fixed distances in a designator or an operand does so in each that is derived.
use mathlib.Core.Path.{◌≡◌}
use mathlib.Core.List.{List}
use mathlib.Core.Option.{Option, none, some}
use Prim.Native.Nat.{ℕ}
use native.Mathlib.Omega.{arith}
use Rattle.grammar.specs.Tree.{Designator, Operand, number, place}
use Rattle.grammar.specs.Derives.{is_shape, is_designator, is_operand}
use Rattle.grammar.specs.Pinned.{head_of, ShapePinned, DesignatorPinned, OperandPinned}

module _ (kinds : List ℕ) where
  shape-pinned : (n : ℕ) (s x : Option ℕ) (i j : ℕ) → is_shape kinds n s x i j → (n ≡ i) × ShapePinned n s x
  shape-pinned n none none i j h = (h.0, tt)
  shape-pinned n none (some x) i j (e, h, (o, (y, z, c))) = (e, omega arith)
  shape-pinned n (some s) none i j (e, h, (o, (y, z, c))) = (e, omega arith)
  shape-pinned n (some s) (some x) i j (e, h, (o, (y, z, (c, (p, (u, v, q)))))) = (e, omega arith)

  pub pinned-designator : (d : Designator) (i j : ℕ) → is_designator kinds d i j → (d.name ≡ i) × DesignatorPinned d
  unfolding is_designator DesignatorPinned
  pinned-designator d i j h = shape-pinned d.name d.subscript d.index i j h

  pub pinned-operand : (a : Operand) (i j : ℕ) → is_operand kinds a i j → (head_of a ≡ i) × OperandPinned a
  unfolding is_operand OperandPinned
  pinned-operand (number t) i j h = (h.0, tt)
  pinned-operand (place d) i j h = pinned-designator d i j h
