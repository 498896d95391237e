-- The tape of a tree: the tree written out in the order of reading, one number an event. Each function is handed what follows on the tape.
-- An event has the token that it stands for; what else it needs stands at fixed distances from there.
use Rattle.std.specs.Prelude.{List, [], ◌∷◌, true, false, ℕ, ◌+◌, ◌*◌, ◌%◌}
use Rattle.std.proofs.Math.Option.{Option, none, some}
use Rattle.grammar.specs.Tree.{Designator, Operand, number, place, Sign, plain, abs, neg, neg_abs, Term, Assignment, Condition, compared, bare, Width, full, short, byte, Register, Item, Declaration, registers, cells, base, Statement, assign, call, apply, block, goto, null, if_then, if_else, while, for, choose, Body, declare, procedure, items, Items, ended, label, item, Choices, over, choice}
use Rattle.grammar.specs.Events.{choices_count}
use Rattle.tape.specs.Events as E

unfoldable pub event : ℕ → ℕ → ℕ
event op token = token * E.EVENTS + op % E.EVENTS

-- ── designators and operands ──

abbrev pub shape_by : Option ℕ → Option ℕ → ℕ
shape_by none none = E.ALONE
shape_by (some s) none = E.SUBSCRIPTED
shape_by none (some x) = E.INDEXED
shape_by (some s) (some x) = E.SUBSCRIPTED-INDEXED

abbrev pub shape : Designator → ℕ
shape d = shape_by d.subscript d.index

unfoldable pub tape_designator : ℕ → Designator → List ℕ → List ℕ
tape_designator op d k = event (op + shape d) d.name ∷ k

unfoldable pub tape_operand : ℕ → Operand → List ℕ → List ℕ
tape_operand op (number t) k = event (op + E.NUMBER) t ∷ k
tape_operand op (place d) k = tape_designator op d k

-- ── conditions and assignments ──

unfoldable pub tape_condition : Condition → List ℕ → List ℕ
tape_condition (compared n r a) k = tape_operand E.COMPARED a k
tape_condition (bare r) k = event E.BARE r ∷ k

unfoldable pub tape_sign : Sign → List ℕ → List ℕ
tape_sign plain k = k
tape_sign (abs t) k = event E.ABS t ∷ k
tape_sign (neg t) k = event E.NEG t ∷ k
tape_sign (neg_abs t) k = event E.NEG-ABS t ∷ k

-- one after the other
unfoldable pub tape_each : {A : Type 0} → (A → List ℕ → List ℕ) → List A → List ℕ → List ℕ
tape_each out [] k = k
tape_each out (a ∷ rest) k = out a (tape_each out rest k)

abbrev pub tape_term : Term → List ℕ → List ℕ
tape_term t k = tape_operand E.TERM t.operand k

-- op: TARGET, or CONTROL in a FOR
unfoldable pub tape_assignment : ℕ → Assignment → List ℕ → List ℕ
tape_assignment op a k = tape_designator op a.target (tape_sign a.sign (tape_operand E.FIRST a.first (tape_each tape_term a.rest k)))

-- ── declarations ──

abbrev pub tape_value : ℕ → List ℕ → List ℕ
tape_value t k = event E.VALUE t ∷ k

unfoldable pub tape_item : Item → List ℕ → List ℕ
tape_item i k = event E.ITEM i.name ∷ tape_each tape_value i.numbers k

abbrev pub tape_register : Register → List ℕ → List ℕ
tape_register r k = event E.REGISTER r.name ∷ k

abbrev pub width_of : Width → ℕ
width_of full = E.FULL
width_of short = E.SHORT
width_of (byte false) = E.BYTE
width_of (byte true) = E.CHARACTER

-- what the cells that follow are
abbrev pub cells_event : Option ℕ → Width → ℕ
cells_event none w = event (E.SINGLE-FULL + width_of w) 0
cells_event (some c) w = event (E.ARRAY-FULL + width_of w) c

unfoldable pub tape_declaration : Declaration → List ℕ → List ℕ
tape_declaration (registers rs) k = tape_each tape_register rs k
tape_declaration (cells c w is) k = cells_event c w ∷ tape_each tape_item is k
tape_declaration (base n) k = event E.BASE n ∷ k

-- ── statements ──

abbrev pub tape_argument : Operand → List ℕ → List ℕ
tape_argument a k = tape_operand E.ARGUED a k

unfoldable mutual
  pub tape_statement : Statement → List ℕ → List ℕ
  tape_statement (assign a) k = tape_assignment E.TARGET a k
  tape_statement (call n) k = event E.CALL n ∷ k
  tape_statement (apply n a xs) k = event E.APPLIED n ∷ tape_each tape_argument (a ∷ xs) (event E.COUNTED n ∷ k)
  tape_statement (block t b) k = event E.BLOCK t ∷ tape_body b (event E.END-BLOCK t ∷ k)
  tape_statement (goto t n) k = event E.GOTO n ∷ k
  tape_statement null k = k
  tape_statement (if_then t c x) k = tape_condition c (tape_statement x (event E.END-IF t ∷ k))
  tape_statement (if_else t c x e y) k = tape_condition c (tape_statement x (event E.ELSE t ∷ tape_statement y (event E.END-ELSE t ∷ k)))
  tape_statement (while t c x) k = event E.WHILE t ∷ tape_condition c (tape_statement x (event E.END-WHILE t ∷ k))
  tape_statement (for t a v l x) k = tape_assignment E.CONTROL a (tape_operand E.LIMIT l (tape_statement x (event E.END-FOR v ∷ k)))
  tape_statement (choose t n xs) k = event E.LISTED (choices_count xs) ∷ event E.CHOSEN n ∷ tape_choices n xs (event E.END-CASE n ∷ k)

  pub tape_body : Body → List ℕ → List ℕ
  tape_body (declare d b) k = tape_declaration d (tape_body b k)
  tape_body (procedure n r x b) k = event E.PROCEDURE n ∷ tape_statement x (event E.END-PROCEDURE n ∷ tape_body b k)
  tape_body (items is) k = tape_items is k

  pub tape_items : Items → List ℕ → List ℕ
  tape_items ended k = k
  tape_items (label n is) k = event E.LABEL n ∷ tape_items is k
  tape_items (item x is) k = tape_statement x (tape_items is k)

  -- of the CASE whose register is named at token n
  pub tape_choices : (name : ℕ) → Choices → List ℕ → List ℕ
  tape_choices n over k = k
  tape_choices n (choice x xs) k = tape_statement x (event E.END-CHOICE n ∷ tape_choices n xs k)
