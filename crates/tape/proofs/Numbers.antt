-- The number of an event says what it is: its layer (`layer-at`), its family (`family-at`) and its form (`form-at`), and it is one of the numbers that a tape has room
-- for (`op_fits`).
use mathlib.Core.Path.{◌≡◌, refl, ap, sym, ◌∙◌}
use mathlib.Core.Bool.{Bool, true, false, ◌&&◌}
use mathlib.Core.Option.{Option, none, some}
use Prim.Native.Nat.{ℕ, ◌+◌, ◌<◌}
use native.Mathlib.Omega.{arith}
use lib.Dec.{T, eqb, ltb}
use borrow.Author.Tests.{eqb-true, ltb-true, eq-eqb}
use Rattle.base.proofs.Tests.{cases, is_true, and_left, and_right, never_true}
use Rattle.grammar.specs.Tree.{Operand, number, place, Sign, plain, abs, neg, neg_abs, Condition, compared, bare, Width, full, short, byte}
use Rattle.grammar.specs.Events.{Edge, opened, closed, entered, left, Route, labelled, sent, Entry, named, celled, itemed, valued, based, Phrase, aimed, driven, signed, given, joined, tested, limited, called, applied, argued, counted, chosen, Mark, looped, otherwise, ended_if, ended_else, ended_while, ended_for, listed, ended_choice, ended_case, Event, edge, route, entry, phrase, mark}
use Rattle.tape.specs.Events as E
use Rattle.tape.specs.Numbers.{EDGE, ROUTE, ENTRY, PHRASE, MARK, layer_at, form_at, family_at}
use Rattle.tape.specs.Tape.{shape_by, width_of}
use Rattle.tape.specs.Written.{Code, operand_shape, sign_code, condition_code, edge_code, route_code, entry_code, phrase_code, mark_code, code_of, layer_of, family_of, form_of, op_of}

-- ── by shape ──

pub by_shape : (P : ℕ → Type 0) → P 0 → P 1 → P 2 → P 3 → (subscript index : Option ℕ) → P (shape_by subscript index)
by_shape P a b c d none none = a
by_shape P a b c d (some s) none = b
by_shape P a b c d none (some x) = c
by_shape P a b c d (some s) (some x) = d

pub by-operand : (P : ℕ → Type 0) → P 0 → P 1 → P 2 → P 3 → P 4 → (a : Operand) → P (operand_shape a)
by-operand P a b c d e (number t) = e
by-operand P a b c d e (place x) = by_shape P a b c d x.subscript x.index

pub by_width : (P : ℕ → Type 0) → P 0 → P 1 → P 2 → P 3 → (w : Width) → P (width_of w)
by_width P a b c d full = a
by_width P a b c d short = b
by_width P a b c d (byte false) = c
by_width P a b c d (byte true) = d

-- ── what each number says ──

-- a number that is made of a family and a form says so, says its layer, and fits
abbrev says : (layer family form : ℕ) → Bool
says layer family form = eqb (layer_at (family + form)) layer && (eqb (form_at (family + form)) form && ltb (family + form) E.EVENTS)

abbrev Told : ℕ → Code → Type 0
Told layer c = T (says layer c.family c.form)

module _ (family : ℕ) where
  abbrev Shaped : ℕ → Type 0
  Shaped form = T (says PHRASE family form)

  told-shape : Shaped 0 → Shaped 1 → Shaped 2 → Shaped 3 → (subscript index : Option ℕ) → Shaped (shape_by subscript index)
  told-shape a b c d s x = by_shape Shaped a b c d s x

  told-operand : Shaped 0 → Shaped 1 → Shaped 2 → Shaped 3 → Shaped 4 → (a : Operand) → Shaped (operand_shape a)
  told-operand a b c d e x = by-operand Shaped a b c d e x

told-edge : (x : Edge) → Told EDGE (edge_code x)
unfolding layer_at form_at
told-edge (opened t ls) = tt
told-edge (closed t) = tt
told-edge (entered n r) = tt
told-edge (left n) = tt

told-route : (r : Route) → Told ROUTE (route_code r)
unfolding layer_at form_at
told-route (labelled l) = tt
told-route (sent t n) = tt

told-entry : (d : Entry) → Told ENTRY (entry_code d)
unfolding layer_at form_at
told-entry (named r) = tt
told-entry (celled none w) = by_width (λ f. T (says ENTRY E.SINGLE-FULL f)) tt tt tt tt w
told-entry (celled (some c) w) = by_width (λ f. T (says ENTRY E.ARRAY-FULL f)) tt tt tt tt w
told-entry (itemed c w i) = tt
told-entry (valued t) = tt
told-entry (based n) = tt

told-sign : (g : Sign) → Told PHRASE (sign_code g)
unfolding layer_at form_at
told-sign plain = tt
told-sign (abs t) = tt
told-sign (neg t) = tt
told-sign (neg_abs t) = tt

told-condition : (c : Condition) → Told PHRASE (condition_code c)
unfolding layer_at form_at
told-condition (compared n r a) = told-operand E.COMPARED tt tt tt tt tt a
told-condition (bare r) = tt

told-phrase : (f : Phrase) → Told PHRASE (phrase_code f)
unfolding layer_at form_at
told-phrase (aimed d) = told-shape E.TARGET tt tt tt tt d.subscript d.index
told-phrase (driven d) = told-shape E.CONTROL tt tt tt tt d.subscript d.index
told-phrase (signed d g) = told-sign g
told-phrase (given d a) = told-operand E.FIRST tt tt tt tt tt a
told-phrase (joined d t) = told-operand E.TERM tt tt tt tt tt t.operand
told-phrase (tested t c) = told-condition c
told-phrase (limited d v a) = told-operand E.LIMIT tt tt tt tt tt a
told-phrase (called n) = tt
told-phrase (applied n) = tt
told-phrase (argued n p a) = told-operand E.ARGUED tt tt tt tt tt a
told-phrase (counted n c) = tt
told-phrase (chosen n) = tt

told-mark : (m : Mark) → Told MARK (mark_code m)
unfolding layer_at form_at
told-mark (looped t) = tt
told-mark (otherwise t) = tt
told-mark (ended_if t) = tt
told-mark (ended_else t) = tt
told-mark (ended_while t) = tt
told-mark (ended_for v) = tt
told-mark (listed c) = tt
told-mark (ended_choice t) = tt
told-mark (ended_case t) = tt

told : (e : Event) → Told (layer_of e) (code_of e)
told (edge x) = told-edge x
told (route r) = told-route r
told (entry d) = told-entry d
told (phrase f) = told-phrase f
told (mark m) = told-mark m

-- read from the test
module _ (layer family form : ℕ) (h : T (says layer family form)) where
  abbrev rest : Bool
  rest = eqb (form_at (family + form)) form && ltb (family + form) E.EVENTS

  h-rest : T rest
  h-rest = and_right (eqb (layer_at (family + form)) layer) rest h

  says-layer : layer_at (family + form) ≡ layer
  says-layer = eqb-true _ _ (is_true _ (and_left (eqb (layer_at (family + form)) layer) rest h))

  says-form : form_at (family + form) ≡ form
  says-form = eqb-true _ _ (is_true _ (and_left (eqb (form_at (family + form)) form) (ltb (family + form) E.EVENTS) h-rest))

  says-fits : family + form < E.EVENTS
  says-fits = ltb-true _ _ (is_true _ (and_right (eqb (form_at (family + form)) form) (ltb (family + form) E.EVENTS) h-rest))

pub layer-at : (e : Event) → layer_at (op_of e) ≡ layer_of e
layer-at e = says-layer (layer_of e) (family_of e) (form_of e) (told e)

pub form-at : (e : Event) → form_at (op_of e) ≡ form_of e
form-at e = says-form (layer_of e) (family_of e) (form_of e) (told e)

pub family-at : (e : Event) → family_at (op_of e) ≡ family_of e
family-at e = omega (arith, form-at e)

pub op_fits : (e : Event) → op_of e < E.EVENTS
op_fits e = says-fits (layer_of e) (family_of e) (form_of e) (told e)

-- ── numbers that differ ──

-- an event is none of those that are said to be other
differ : (say : ℕ → ℕ) (op n : ℕ) → eqb (say op) (say n) ≡ false → eqb op n ≡ false
differ say op n h = cases (eqb op n) (λ q. never_true (sym h ∙ (ap (λ (x : ℕ). eqb (say x) (say n)) (eqb-true op n q) ∙ eq-eqb (say n) (say n) refl))) (λ q. q)

pub other-layer : (e : Event) (n : ℕ) → eqb (layer_of e) (layer_at n) ≡ false → eqb (op_of e) n ≡ false
other-layer e n h = differ layer_at (op_of e) n (rw (layer-at e) h)

pub other-family : (e : Event) (n : ℕ) → eqb (family_of e) (family_at n) ≡ false → eqb (op_of e) n ≡ false
other-family e n h = differ family_at (op_of e) n (rw (family-at e) h)
