-- Where an event stands: the blocks and the bodies of procedures around it, innermost first, each with what has been declared and labelled in it so far. And
-- what it is to go along a text: a pass is handed each event with its place, and changes no place.
use Rattle.std.specs.Prelude.{List, [], ◌∷◌, ◌++◌, ℕ}
use Rattle.grammar.specs.Events.{Edge, opened, closed, entered, left, Route, labelled, sent, Entry, Event, edge, route, entry, phrase, mark, entry_uses, entry_declares}

-- a block, by its BEGIN: the names and bases that have been declared in it, the newest first; all its labels; those that have been set
pub record Block : Type 0 where
  pub at : ℕ
  pub names : List ℕ
  pub bases : List ℕ
  pub labels : List ℕ
  pub set : List ℕ

pub data Frame : Type 0 where
  within : Block → Frame
  body : (name return : ℕ) → Frame

abbrev pub Place : Type 0
Place = List Frame

-- ── from one event to the next ──

abbrev pub outward : Place → Place
outward [] = []
outward (f ∷ p) = p

-- the innermost block with names and bases more that have been declared in it, and labels that have been set
abbrev pub extend : (names bases set : List ℕ) → Place → Place
extend ns bs ls [] = []
extend ns bs ls (within b ∷ p) = within (record { at = b.at; names = ns ++ b.names; bases = bs ++ b.bases; labels = b.labels; set = ls ++ b.set }) ∷ p
extend ns bs ls (body n r ∷ p) = body n r ∷ p

abbrev pub enter_name : ℕ → Place → Place
enter_name t p = extend (t ∷ []) [] [] p

-- the one name that an entry uses is that of a base
abbrev pub enter_entry : Entry → Place → Place
enter_entry d p = extend (entry_declares d) (entry_uses d) [] p

abbrev pub enter_label : ℕ → Place → Place
enter_label t p = extend [] [] (t ∷ []) p

abbrev pub after_edge : Edge → Place → Place
after_edge (opened t ls) p = within (record { at = t; names = []; bases = []; labels = ls; set = [] }) ∷ p
after_edge (closed t) p = outward p
after_edge (entered n r) p = body n r ∷ enter_name n p
after_edge (left n) p = outward p

abbrev pub after_route : Route → Place → Place
after_route (labelled l) p = enter_label l p
after_route (sent t n) p = p

abbrev pub after : Event → Place → Place
after (edge x) p = after_edge x p
after (route r) p = after_route r p
after (entry d) p = enter_entry d p
after (phrase f) p = p
after (mark m) p = p

-- ── along a text ──

unfoldable pub after_all : List Event → Place → Place
after_all [] p = p
after_all (e ∷ es) p = after_all es (after e p)

-- what f makes of each event, at its place, taken into a state
unfoldable pub along : {S : Type 0} → (Event → Place → S → S) → List Event → Place → S → S
along f [] p s = s
along f (e ∷ es) p s = along f es (after e p) (f e p s)

-- P holds of each event at its place
unfoldable pub Along : (Event → Place → Type 0) → List Event → Place → Type 0
Along P [] p = Unit {0}
Along P (e ∷ es) p = P e p × Along P es (after e p)
