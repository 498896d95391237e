-- The tape of events: a number for each, made of the event's family, its form and the token that it stands for.
use Rattle.std.specs.Prelude.{List, map, ℕ, ◌+◌}
use Rattle.std.proofs.Math.Option.{none, some}
use Rattle.grammar.specs.Tree.{Designator, Operand, number, place, Sign, plain, abs, neg, neg_abs, Condition, compared, bare}
use Rattle.grammar.specs.Pinned.{head_of}
use Rattle.grammar.specs.Events.{Edge, opened, closed, entered, left, Route, labelled, sent, Entry, named, celled, itemed, valued, based, Phrase, aimed, driven, signed, given, joined, tested, limited, called, applied, argued, counted, chosen, Mark, looped, otherwise, ended_if, ended_else, ended_while, ended_for, listed, ended_choice, ended_case, Event, edge, route, entry, phrase, mark}
use Rattle.tape.specs.Events as E
use Rattle.tape.specs.Numbers.{EDGE, ROUTE, ENTRY, PHRASE, MARK}
use Rattle.tape.specs.Tape.{event, shape, width_of}

-- what an event is on the tape. Its number is its family's and its form: the shape of a designator or an operand, the width of cells, else 0.
pub record Code : Type 0 where
  pub family : ℕ
  pub form : ℕ
  pub token : ℕ

-- an event without forms
abbrev alone : ℕ → ℕ → Code
alone n t = record { family = n; form = 0; token = t }

abbrev formed : ℕ → ℕ → ℕ → Code
formed n f t = record { family = n; form = f; token = t }

abbrev pub edge_code : Edge → Code
edge_code (opened t ls) = alone E.BLOCK t
edge_code (closed t) = alone E.END-BLOCK t
edge_code (entered n r) = alone E.PROCEDURE n
edge_code (left n) = alone E.END-PROCEDURE n

abbrev pub route_code : Route → Code
route_code (labelled l) = alone E.LABEL l
route_code (sent t n) = alone E.GOTO n

abbrev pub entry_code : Entry → Code
entry_code (named r) = alone E.REGISTER r.name
entry_code (celled none w) = formed E.SINGLE-FULL (width_of w) 0
entry_code (celled (some c) w) = formed E.ARRAY-FULL (width_of w) c
entry_code (itemed c w i) = alone E.ITEM i.name
entry_code (valued t) = alone E.VALUE t
entry_code (based n) = alone E.BASE n

-- a number's shape is 4
abbrev pub operand_shape : Operand → ℕ
operand_shape (number t) = E.NUMBER
operand_shape (place d) = shape d

abbrev pub designator_code : ℕ → Designator → Code
designator_code n d = formed n (shape d) d.name

abbrev pub operand_code : ℕ → Operand → Code
operand_code n a = formed n (operand_shape a) (head_of a)

abbrev pub sign_code : Sign → Code
sign_code plain = alone E.ABS 0
sign_code (abs t) = alone E.ABS t
sign_code (neg t) = alone E.NEG t
sign_code (neg_abs t) = alone E.NEG-ABS t

abbrev pub condition_code : Condition → Code
condition_code (compared n r a) = operand_code E.COMPARED a
condition_code (bare r) = alone E.BARE r

abbrev pub phrase_code : Phrase → Code
phrase_code (aimed d) = designator_code E.TARGET d
phrase_code (driven d) = designator_code E.CONTROL d
phrase_code (signed d g) = sign_code g
phrase_code (given d a) = operand_code E.FIRST a
phrase_code (joined d t) = operand_code E.TERM t.operand
phrase_code (tested t c) = condition_code c
phrase_code (limited d v a) = operand_code E.LIMIT a
phrase_code (called n) = alone E.CALL n
phrase_code (applied n) = alone E.APPLIED n
phrase_code (argued n p a) = operand_code E.ARGUED a
phrase_code (counted n c) = alone E.COUNTED n
phrase_code (chosen n) = alone E.CHOSEN n

abbrev pub mark_code : Mark → Code
mark_code (looped t) = alone E.WHILE t
mark_code (otherwise t) = alone E.ELSE t
mark_code (ended_if t) = alone E.END-IF t
mark_code (ended_else t) = alone E.END-ELSE t
mark_code (ended_while t) = alone E.END-WHILE t
mark_code (ended_for v) = alone E.END-FOR v
mark_code (listed c) = alone E.LISTED c
mark_code (ended_choice t) = alone E.END-CHOICE t
mark_code (ended_case t) = alone E.END-CASE t

abbrev pub code_of : Event → Code
code_of (edge x) = edge_code x
code_of (route r) = route_code r
code_of (entry d) = entry_code d
code_of (phrase f) = phrase_code f
code_of (mark m) = mark_code m

abbrev pub layer_of : Event → ℕ
layer_of (edge x) = EDGE
layer_of (route r) = ROUTE
layer_of (entry d) = ENTRY
layer_of (phrase f) = PHRASE
layer_of (mark m) = MARK

abbrev pub family_of : Event → ℕ
family_of e = (code_of e).family

abbrev pub form_of : Event → ℕ
form_of e = (code_of e).form

abbrev pub op_of : Event → ℕ
op_of e = (code_of e).family + (code_of e).form

abbrev pub token_of : Event → ℕ
token_of e = (code_of e).token

abbrev pub tape_of : List Event → List ℕ
tape_of es = map (λ (e : Event). event (op_of e) (token_of e)) es
