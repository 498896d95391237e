-- The text in its order: what stands in it, one event after the other. This is the one recursion over the tree that a pass needs; what a pass does it
-- says of each event, at the place where the event stands (Places).
use Rattle.std.specs.Prelude.{List, [], ◌∷◌, ℕ, ◌+◌}
use Rattle.std.proofs.Math.Option.{Option, none, some}
use Rattle.grammar.specs.Tree.{Designator, Operand, number, place, Sign, plain, abs, neg, neg_abs, Term, Assignment, Condition, compared, bare, Width, Register, Item, Declaration, registers, cells, base, Statement, assign, call, apply, block, goto, null, if_then, if_else, while, for, choose, Body, declare, procedure, items, Items, ended, label, item, Choices, over, choice}

-- ── what stands in a text ──

-- where blocks and the bodies of procedures begin and end. A block has all its labels from its start.
pub data Edge : Type 0 where
  opened : (at : ℕ) → (labels : List ℕ) → Edge
  closed : (at : ℕ) → Edge
  entered : (name return : ℕ) → Edge
  left : (name : ℕ) → Edge

-- what labels are about: "name :" and "GOTO name"
pub data Route : Type 0 where
  labelled : (name : ℕ) → Route
  sent : (at name : ℕ) → Route

-- what declarations are made of. A cell has what its declaration says of it.
pub data Entry : Type 0 where
  named : Register → Entry
  celled : (count : Option ℕ) → Width → Entry
  itemed : (count : Option ℕ) → Width → Item → Entry
  valued : (number : ℕ) → Entry
  based : (name : ℕ) → Entry

-- what statements are made of. What follows a target has it; an argument has the name of its use and its position from 0 on, and the end of a use how many there were; a CASE
-- has its register.
pub data Phrase : Type 0 where
  aimed driven : Designator → Phrase
  signed : (target : Designator) → Sign → Phrase
  given : (target : Designator) → Operand → Phrase
  joined : (target : Designator) → Term → Phrase
  tested : (at : ℕ) → Condition → Phrase
  limited : (target : Designator) → (step : ℕ) → Operand → Phrase
  called applied : (name : ℕ) → Phrase
  argued : (name position : ℕ) → Operand → Phrase
  counted : (name count : ℕ) → Phrase
  chosen : (name : ℕ) → Phrase

-- where statements begin, part and end that hold others: only the code heeds them. Before the register of a CASE stands how many statements it chooses from; each of them ends, and
-- then the CASE, by its register.
pub data Mark : Type 0 where
  looped otherwise ended_if ended_else ended_while : (at : ℕ) → Mark
  ended_for : (step : ℕ) → Mark
  listed : (count : ℕ) → Mark
  ended_choice ended_case : (name : ℕ) → Mark

pub data Event : Type 0 where
  edge : Edge → Event
  route : Route → Event
  entry : Entry → Event
  phrase : Phrase → Event
  mark : Mark → Event

-- ── the names in an event ──

abbrev pub index_names : Option ℕ → List ℕ
index_names none = []
index_names (some t) = t ∷ []

abbrev pub designator_names : Designator → List ℕ
designator_names d = d.name ∷ index_names d.index

abbrev pub operand_names : Operand → List ℕ
operand_names (number t) = []
operand_names (place d) = designator_names d

abbrev pub condition_names : Condition → List ℕ
condition_names (compared n r a) = n ∷ operand_names a
condition_names (bare r) = []

-- the names that it uses, in their order
abbrev pub entry_uses : Entry → List ℕ
entry_uses (named r) = []
entry_uses (celled c w) = []
entry_uses (itemed c w i) = []
entry_uses (valued t) = []
entry_uses (based n) = n ∷ []

abbrev pub phrase_uses : Phrase → List ℕ
phrase_uses (aimed d) = designator_names d
phrase_uses (driven d) = designator_names d
phrase_uses (signed d g) = []
phrase_uses (given d a) = operand_names a
phrase_uses (joined d t) = operand_names t.operand
phrase_uses (tested t c) = condition_names c
phrase_uses (limited d v a) = operand_names a
phrase_uses (called n) = n ∷ []
phrase_uses (applied n) = n ∷ []
phrase_uses (argued n p a) = operand_names a
phrase_uses (counted n c) = []
phrase_uses (chosen n) = n ∷ []

abbrev pub edge_uses : Edge → List ℕ
edge_uses (opened t ls) = []
edge_uses (closed t) = []
edge_uses (entered n r) = r ∷ []
edge_uses (left n) = []

abbrev pub uses : Event → List ℕ
uses (edge x) = edge_uses x
uses (route r) = []
uses (entry d) = entry_uses d
uses (phrase f) = phrase_uses f
uses (mark m) = []

-- the names that it declares
abbrev pub entry_declares : Entry → List ℕ
entry_declares (named r) = r.name ∷ []
entry_declares (celled c w) = []
entry_declares (itemed c w i) = i.name ∷ []
entry_declares (valued t) = []
entry_declares (based n) = []

-- a procedure's name is declared from its own token on: "A procedure's name is known in its own body"
abbrev pub edge_declares : Edge → List ℕ
edge_declares (opened t ls) = []
edge_declares (closed t) = []
edge_declares (entered n r) = n ∷ []
edge_declares (left n) = []

abbrev pub declares : Event → List ℕ
declares (edge x) = edge_declares x
declares (route r) = []
declares (entry d) = entry_declares d
declares (phrase f) = []
declares (mark m) = []

-- ── from the tree ──

-- one after the other
unfoldable pub each : {A : Type 0} → (A → List Event → List Event) → List A → List Event → List Event
each out [] k = k
each out (a ∷ rest) k = out a (each out rest k)

abbrev pub events_value : ℕ → List Event → List Event
events_value t k = entry (valued t) ∷ k

unfoldable pub events_item : Option ℕ → Width → Item → List Event → List Event
events_item c w i k = entry (itemed c w i) ∷ each events_value i.numbers k

abbrev pub events_register : Register → List Event → List Event
events_register r k = entry (named r) ∷ k

unfoldable pub events_declaration : Declaration → List Event → List Event
events_declaration (registers rs) k = each events_register rs k
events_declaration (cells c w is) k = entry (celled c w) ∷ each (events_item c w) is k
events_declaration (base n) k = entry (based n) ∷ k

unfoldable pub events_sign : Designator → Sign → List Event → List Event
events_sign d plain k = k
events_sign d (abs t) k = phrase (signed d (abs t)) ∷ k
events_sign d (neg t) k = phrase (signed d (neg t)) ∷ k
events_sign d (neg_abs t) k = phrase (signed d (neg_abs t)) ∷ k

abbrev pub events_term : Designator → Term → List Event → List Event
events_term d t k = phrase (joined d t) ∷ k

-- what follows an assignment's target
unfoldable pub events_chain : Assignment → List Event → List Event
events_chain a k = events_sign a.target a.sign (phrase (given a.target a.first) ∷ each (events_term a.target) a.rest k)

-- the arguments of a use from position p on, and its end
unfoldable pub events_arguments : (name position : ℕ) → List Operand → List Event → List Event
events_arguments n p [] k = phrase (counted n p) ∷ k
events_arguments n p (a ∷ xs) k = phrase (argued n p a) ∷ events_arguments n (p + 1) xs k

-- the labels among items, the newest first, before those set earlier
abbrev pub labels_onto : Items → List ℕ → List ℕ
labels_onto ended earlier = earlier
labels_onto (label l is) earlier = labels_onto is (l ∷ earlier)
labels_onto (item x is) earlier = labels_onto is earlier

-- all labels of a block, which its statements know from its start
abbrev pub labels_of : Body → List ℕ → List ℕ
labels_of (declare d b) earlier = labels_of b earlier
labels_of (procedure n r x b) earlier = labels_of b earlier
labels_of (items is) earlier = labels_onto is earlier

-- how many statements a CASE chooses from
abbrev pub choices_count : Choices → ℕ
choices_count over = 0
choices_count (choice x xs) = choices_count xs + 1

unfoldable mutual
  pub events_statement : Statement → List Event → List Event
  events_statement (assign a) k = phrase (aimed a.target) ∷ events_chain a k
  events_statement (call n) k = phrase (called n) ∷ k
  events_statement (apply n a xs) k = phrase (applied n) ∷ events_arguments n 0 (a ∷ xs) k
  events_statement (block t b) k = edge (opened t (labels_of b [])) ∷ events_body b (edge (closed t) ∷ k)
  events_statement (goto t n) k = route (sent t n) ∷ k
  events_statement null k = k
  events_statement (if_then t c x) k = phrase (tested t c) ∷ events_statement x (mark (ended_if t) ∷ k)
  events_statement (if_else t c x e y) k = phrase (tested t c) ∷ events_statement x (mark (otherwise t) ∷ events_statement y (mark (ended_else t) ∷ k))
  events_statement (while t c x) k = mark (looped t) ∷ phrase (tested t c) ∷ events_statement x (mark (ended_while t) ∷ k)
  events_statement (for t a v l x) k = phrase (driven a.target) ∷ events_chain a (phrase (limited a.target v l) ∷ events_statement x (mark (ended_for v) ∷ k))
  events_statement (choose t n xs) k = mark (listed (choices_count xs)) ∷ phrase (chosen n) ∷ events_choices n xs (mark (ended_case n) ∷ k)

  pub events_body : Body → List Event → List Event
  events_body (declare d b) k = events_declaration d (events_body b k)
  events_body (procedure n r x b) k = edge (entered n r) ∷ events_statement x (edge (left n) ∷ events_body b k)
  events_body (items is) k = events_items is k

  pub events_items : Items → List Event → List Event
  events_items ended k = k
  events_items (label l is) k = route (labelled l) ∷ events_items is k
  events_items (item x is) k = events_statement x (events_items is k)

  -- of the CASE whose register is named at token n
  pub events_choices : (name : ℕ) → Choices → List Event → List Event
  events_choices n over k = k
  events_choices n (choice x xs) k = events_statement x (mark (ended_choice n) ∷ events_choices n xs k)

-- all that stands in a program
abbrev pub events_of : Statement → List Event
events_of x = events_statement x []
