-- Events that are a text from token i up to j: each stands at its place, and at tokens after those of the one before, which are exactly its own. All that a pass needs to know of the
-- grammar; every program's events are one (proofs/Texts).
use Rattle.std.specs.Prelude.{◌≡◌, List, [], ◌∷◌, ℕ, ◌+◌, ◌≤◌}
use Rattle.std.proofs.Math.Option.{none, some}
use Rattle.token.specs.Kinds as K
use Rattle.grammar.specs.Grammar.{operators}
use Rattle.grammar.specs.Derives.{Part, end, ◌⟫◌, ◌▸◌, ◌#◌▸◌, ◌∋◌▸◌, is_designator, is_operand, is_condition, is_sign, is_register, is_type, is_procedure}
use Rattle.grammar.specs.Events.{Edge, opened, closed, entered, left, Route, labelled, sent, Entry, named, celled, itemed, valued, based, Phrase, aimed, driven, signed, given, joined, tested, limited, called, applied, argued, counted, chosen, Event, edge, route, entry, phrase, mark}
use Rattle.grammar.specs.Places.{within, body, Place, after}

-- ── the place that an event asks for ──

abbrev pub InBlock : Place → Type 0
InBlock [] = ⊥
InBlock (within b ∷ p) = Unit {0}
InBlock (body n r ∷ p) = ⊥

-- where a block ends all its labels have been set
abbrev pub Closes : ℕ → Place → Type 0
Closes t [] = ⊥
Closes t (within b ∷ p) = (b.at ≡ t) × (b.set ≡ b.labels)
Closes t (body n r ∷ p) = ⊥

abbrev pub Leaves : ℕ → Place → Type 0
Leaves n [] = ⊥
Leaves n (within b ∷ p) = ⊥
Leaves n (body m r ∷ p) = m ≡ n

abbrev pub EdgeFits : Edge → Place → Type 0
EdgeFits (opened t ls) p = Unit {0}
EdgeFits (closed t) p = Closes t p
EdgeFits (entered n r) p = InBlock p
EdgeFits (left n) p = Leaves n p

abbrev pub RouteFits : Route → Place → Type 0
RouteFits (labelled l) p = InBlock p
RouteFits (sent t n) p = Unit {0}

abbrev pub Fits : Event → Place → Type 0
Fits (edge x) p = EdgeFits x p
Fits (route r) p = RouteFits r p
Fits (entry d) p = InBlock p
Fits (phrase f) p = Unit {0}
Fits (mark m) p = Unit {0}

-- ── its tokens ──

module _ (kinds : List ℕ) where
  abbrev pub is_edge : Edge → Part
  is_edge (opened t ls) = ◌#◌▸◌ kinds K.BEGIN t end
  is_edge (closed t) = end
  is_edge (entered n r) = is_procedure kinds n r end
  is_edge (left n) = end

  abbrev pub is_route : Route → Part
  is_route (labelled l) = ◌#◌▸◌ kinds K.NAME l (◌▸◌ kinds K.COLON end)
  is_route (sent t n) = ◌#◌▸◌ kinds K.GOTO t (◌#◌▸◌ kinds K.NAME n end)

  abbrev pub is_entry : Entry → Part
  is_entry (named r) = is_register kinds r
  is_entry (celled none w) = is_type kinds w
  is_entry (celled (some c) w) = ◌▸◌ kinds K.ARRAY (◌▸◌ kinds K.OPEN (◌#◌▸◌ kinds K.NUMBER c (◌▸◌ kinds K.CLOSE (is_type kinds w))))
  is_entry (itemed c w i) = ◌#◌▸◌ kinds K.NAME i.name end
  is_entry (valued t) = ◌▸◌ kinds K.OPEN (◌#◌▸◌ kinds K.NUMBER t (◌▸◌ kinds K.CLOSE end))
  is_entry (based n) = ◌▸◌ kinds K.SEGMENT (◌▸◌ kinds K.BASE (◌#◌▸◌ kinds K.NAME n end))

  abbrev pub is_phrase : Phrase → Part
  is_phrase (aimed d) = is_designator kinds d
  is_phrase (driven d) = is_designator kinds d
  is_phrase (signed d g) = is_sign kinds g
  is_phrase (given d a) = is_operand kinds a
  is_phrase (joined d t) = ◌∋◌▸◌ kinds operators t.operator (is_operand kinds t.operand)
  is_phrase (tested t c) = λ i j. (t ≡ i) × is_condition kinds c (i + 1) j
  is_phrase (limited d v a) = ◌▸◌ kinds K.STEP (◌#◌▸◌ kinds K.NUMBER v (◌▸◌ kinds K.UNTIL (is_operand kinds a)))
  is_phrase (called n) = ◌#◌▸◌ kinds K.NAME n end
  is_phrase (applied n) = ◌#◌▸◌ kinds K.NAME n end
  is_phrase (argued n p a) = ◌▸◌ kinds K.OPEN (is_operand kinds a ⟫ ◌▸◌ kinds K.CLOSE end)
  is_phrase (counted n c) = end
  is_phrase (chosen n) = ◌▸◌ kinds K.CASE (◌#◌▸◌ kinds K.NAME n (◌▸◌ kinds K.OF (◌▸◌ kinds K.BEGIN end)))

  abbrev pub is_event : Event → Part
  is_event (edge x) = is_edge x
  is_event (route r) = is_route r
  is_event (entry d) = is_entry d
  is_event (phrase f) = is_phrase f
  is_event (mark m) = end

  -- an event stands at a place, not before token i
  pub record Stands (e : Event) (p : Place) (i : ℕ) : Type 0 where
    pub fits : Fits e p
    pub from : ℕ
    pub to : ℕ
    pub later : i ≤ from
    pub rises : from ≤ to
    pub is : is_event e from to

  unfoldable pub Text : List Event → Place → Part
  Text [] p i j = i ≤ j
  Text (e ∷ es) p i j = (s : Stands e p i) × Text es (after e p) s.to j
