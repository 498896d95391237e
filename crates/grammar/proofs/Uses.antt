-- The names that an event uses stand at rising tokens, all its own.
use mathlib.Core.List.{List, [], ◌∷◌}
use mathlib.Core.Option.{Option, none, some}
use Prim.Native.Nat.{ℕ, ◌+◌, ◌≤◌}
use native.Mathlib.Omega.{arith}
use Rattle.grammar.specs.Tree.{Designator, Operand, number, place, Condition, compared, bare}
use Rattle.grammar.specs.Derives.{is_shape, is_designator, is_operand, is_condition}
use Rattle.grammar.specs.Events.{opened, closed, entered, left, named, celled, itemed, valued, based, Phrase, aimed, driven, signed, given, joined, tested, limited, called, applied, argued, counted, chosen, Event, edge, route, entry, phrase, mark, index_names, designator_names, operand_names, condition_names, phrase_uses, uses}
use Rattle.grammar.specs.Texts.{is_event}

-- from token i on and before j
abbrev pub Rise : List ℕ → ℕ → ℕ → Type 0
Rise [] i j = i ≤ j
Rise (t ∷ ts) i j = (i ≤ t) × Rise ts (t + 1) j

none-rise : (i j : ℕ) → i ≤ j → Rise [] i j
none-rise i j h = h

sooner : (ts : List ℕ) (i i' j : ℕ) → i' ≤ i → Rise ts i j → Rise ts i' j
sooner [] i i' j l h = omega arith
sooner (t ∷ ts) i i' j l (g, h) = (omega arith, h)

further : (ts : List ℕ) (i j j' : ℕ) → j ≤ j' → Rise ts i j → Rise ts i j'
further [] i j j' l h = omega arith
further (t ∷ ts) i j j' l (g, h) = (g, further ts (t + 1) j j' l h)

module _ (kinds : List ℕ) where
  shape-rises : (n : ℕ) (s x : Option ℕ) (i j : ℕ) → is_shape kinds n s x i j → Rise (n ∷ index_names x) i j
  shape-rises n none none i j (e, h, q) = (omega arith, omega arith)
  shape-rises n none (some x) i j (e, h, (o, (y, z, (c, q)))) = (omega arith, (omega arith, omega arith))
  shape-rises n (some s) none i j (e, h, (o, (y, z, (c, q)))) = (omega arith, omega arith)
  shape-rises n (some s) (some x) i j (e, h, (o, (y, z, (c, (p, (u, v, (w, q))))))) = (omega arith, (omega arith, omega arith))

  designator-rises : (d : Designator) (i j : ℕ) → is_designator kinds d i j → Rise (designator_names d) i j
  unfolding is_designator
  designator-rises d i j h = shape-rises d.name d.subscript d.index i j h

  operand-rises : (a : Operand) (i j : ℕ) → is_operand kinds a i j → Rise (operand_names a) i j
  unfolding is_operand
  operand-rises (number t) i j (e, h, q) = none-rise i j (omega arith)
  operand-rises (place d) i j h = designator-rises d i j h

  condition-rises : (c : Condition) (i j : ℕ) → is_condition kinds c i j → Rise (condition_names c) i j
  unfolding is_condition
  condition-rises (compared n r a) i j (e, h, (y, z, k)) = (omega arith, sooner (operand_names a) _ _ j (omega arith) (operand-rises a _ j k))
  condition-rises (bare r) i j (e, h, q) = none-rise i j (omega arith)

  phrase-rises : (f : Phrase) (i j : ℕ) → i ≤ j → is_event kinds (phrase f) i j → Rise (phrase_uses f) i j
  phrase-rises (aimed d) i j l h = designator-rises d i j h
  phrase-rises (driven d) i j l h = designator-rises d i j h
  phrase-rises (signed d g) i j l h = l
  phrase-rises (given d a) i j l h = operand-rises a i j h
  phrase-rises (joined d t) i j l h = sooner (operand_names t.operand) _ _ j (omega arith) (operand-rises t.operand _ j h.2)
  phrase-rises (tested t c) i j l h = sooner (condition_names c) _ _ j (omega arith) (condition-rises c _ j h.1)
  phrase-rises (limited d v a) i j l h = sooner (operand_names a) _ _ j (omega arith) (operand-rises a _ j h.1.2.1)
  phrase-rises (called n) i j l (e, y, q) = (omega arith, omega arith)
  phrase-rises (applied n) i j l (e, y, q) = (omega arith, omega arith)
  phrase-rises (argued n p a) i j l (o, (m, h, (c, q))) = sooner (operand_names a) _ _ j (omega arith) (further (operand_names a) _ m j (omega arith) (operand-rises a _ m h))
  phrase-rises (counted n c) i j l h = l
  phrase-rises (chosen n) i j l (c, (e, y, (o, (b, q)))) = (omega arith, omega arith)

  pub uses-rise : (e : Event) (i j : ℕ) → i ≤ j → is_event kinds e i j → Rise (uses e) i j
  uses-rise (edge (opened t ls)) i j l h = l
  uses-rise (edge (closed t)) i j l h = l
  uses-rise (edge (entered n r)) i j l (p, (e, x, (o, (y, z, (c, (d, q)))))) = (omega arith, omega arith)
  uses-rise (edge (left n)) i j l h = l
  uses-rise (route r) i j l h = l
  uses-rise (entry (named r)) i j l h = l
  uses-rise (entry (celled c w)) i j l h = l
  uses-rise (entry (itemed c w x)) i j l h = l
  uses-rise (entry (valued t)) i j l h = l
  uses-rise (entry (based n)) i j l (a, (b, (e, y, q))) = (omega arith, omega arith)
  uses-rise (phrase f) i j l h = phrase-rises f i j l h
  uses-rise (mark m) i j l h = l
