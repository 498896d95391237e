-- The tape of a tree is the tape of its events (`tree-tape`), and a pass over it goes along them (`follows`).
use mathlib.Core.Path.{◌≡◌, refl, ap, sym, subst, ◌∙◌}
use mathlib.Core.List.{List, [], ◌∷◌}
use mathlib.Core.Option.{Option, none, some}
use Prim.Native.Nat.{ℕ, ◌+◌, ◌%◌}
use native.Mathlib.Omega.{arith}
use Rattle.grammar.specs.Tree.{Designator, Operand, number, place, Sign, plain, abs, neg, neg_abs, Term, Assignment, Condition, compared, bare, Item, Width, Declaration, registers, cells, base, Statement, assign, call, apply, block, goto, null, if_then, if_else, while, for, choose, Body, declare, procedure, items, Items, ended, label, item, Choices, over, choice}
use Rattle.grammar.specs.Pinned.{head_of}
use Rattle.grammar.specs.Events.{tested, Event, phrase, mark, ended_if, otherwise, ended_else, ended_while, each, events_value, events_item, events_register, events_declaration, events_sign, events_term, events_chain, events_arguments, events_statement, events_body, events_items, events_choices, events_of}
use Rattle.grammar.specs.Places.{Place, after, after_all, along, Along}
use Rattle.grammar.specs.Contexts.{Context, context_after, Complete, Suits, Coherent}
use Rattle.tape.specs.Events as E
use Rattle.tape.specs.Tape.{event, tape_designator, tape_operand, tape_condition, tape_sign, tape_each, tape_term, tape_assignment, tape_value, tape_item, tape_register, tape_declaration, tape_argument, tape_statement, tape_body, tape_items, tape_choices}
use Rattle.tape.specs.Pass.{pass}
use Rattle.tape.specs.Written.{operand_shape, op_of, token_of, tape_of}
use Rattle.tape.proofs.Pass.{pass-none, pass-event}
use Rattle.tape.proofs.Numbers.{op_fits}

-- ── the tape of a tree ──

abbrev Same : (List Event → List Event) → (List ℕ → List ℕ) → Type 0
Same out tape = (k : List Event) → tape_of (out k) ≡ tape (tape_of k)

same-each : {A : Type 0} (out : A → List Event → List Event) (tape : A → List ℕ → List ℕ) → ((a : A) → Same (out a) (tape a)) → (xs : List A) → Same (each out xs) (tape_each tape xs)
unfolding each tape_each
same-each out tape h [] k = refl
same-each out tape h (x ∷ xs) k = h x (each out xs k) ∙ ap (tape x) (same-each out tape h xs k)

cons : (n : ℕ) {a b : List ℕ} → a ≡ b → n ∷ a ≡ n ∷ b
cons n e = ap (λ (l : List ℕ). n ∷ l) e

same_operand : (op : ℕ) (a : Operand) (k : List ℕ) → event (op + operand_shape a) (head_of a) ∷ k ≡ tape_operand op a k
unfolding tape_operand tape_designator
same_operand op (number t) k = refl
same_operand op (place x) k = refl

same-term : (d : Designator) (t : Term) → Same (events_term d t) (tape_term t)
same-term d t k = same_operand E.TERM t.operand (tape_of k)

same-condition : (t : ℕ) (c : Condition) → Same (λ k. phrase (tested t c) ∷ k) (tape_condition c)
unfolding tape_condition
same-condition t (compared n r a) k = same_operand E.COMPARED a (tape_of k)
same-condition t (bare r) k = refl

same_sign : (d : Designator) (g : Sign) → Same (events_sign d g) (tape_sign g)
unfolding events_sign tape_sign
same_sign d plain k = refl
same_sign d (abs t) k = refl
same_sign d (neg t) k = refl
same_sign d (neg_abs t) k = refl

same-chain : (a : Assignment) (k : List Event) → tape_of (events_chain a k) ≡ tape_sign a.sign (tape_operand E.FIRST a.first (tape_each tape_term a.rest (tape_of k)))
unfolding events_chain
same-chain a k = same_sign a.target a.sign _ ∙ ap (tape_sign a.sign) (same_operand E.FIRST a.first _
    ∙ ap (tape_operand E.FIRST a.first) (same-each (events_term a.target) tape_term (same-term a.target) a.rest k))

same_item : (c : Option ℕ) (w : Width) (i : Item) → Same (events_item c w i) (tape_item i)
unfolding events_item tape_item
same_item c w i k = cons _ (same-each events_value tape_value (λ t k. refl) i.numbers k)

same-cells : (c : Option ℕ) (w : Width) (is : List Item) → Same (events_declaration (cells c w is)) (tape_declaration (cells c w is))
unfolding events_declaration tape_declaration
same-cells none w is k = cons _ (same-each (events_item none w) tape_item (same_item none w) is k)
same-cells (some c) w is k = cons _ (same-each (events_item (some c) w) tape_item (same_item (some c) w) is k)

same-declaration : (d : Declaration) → Same (events_declaration d) (tape_declaration d)
unfolding events_declaration tape_declaration
same-declaration (registers rs) k = same-each events_register tape_register (λ r k. refl) rs k
same-declaration (cells c w is) k = same-cells c w is k
same-declaration (base n) k = refl

same-arguments : (n p : ℕ) (xs : List Operand) → Same (events_arguments n p xs) (λ k. tape_each tape_argument xs (event E.COUNTED n ∷ k))
unfolding events_arguments tape_each
same-arguments n p [] k = refl
same-arguments n p (a ∷ xs) k = same_operand E.ARGUED a _ ∙ ap (tape_operand E.ARGUED a) (same-arguments n (p + 1) xs k)

mutual
  unfolding events_statement tape_statement tape_assignment tape_designator

  same-statement : (x : Statement) → Same (events_statement x) (tape_statement x)
  same-statement (assign a) k = cons _ (same-chain a k)
  same-statement (call n) k = refl
  same-statement (apply n a xs) k = cons _ (same-arguments n 0 (a ∷ xs) k)
  same-statement (block t b) k = cons _ (same_body b _)
  same-statement (goto t n) k = refl
  same-statement null k = refl
  same-statement (if_then t c x) k = same-condition t c (events_statement x (mark (ended_if t) ∷ k)) ∙ ap (tape_condition c) (same-statement x (mark (ended_if t) ∷ k))
  same-statement (if_else t c x e y) k =
      let rest : List Event = mark (otherwise t) ∷ events_statement y (mark (ended_else t) ∷ k) in
      same-condition t c (events_statement x rest) ∙ ap (tape_condition c) (same-statement x rest ∙ ap (tape_statement x) (cons _ (same-statement y (mark (ended_else t) ∷ k))))
  same-statement (while t c x) k =
      let rest : List Event = mark (ended_while t) ∷ k in
      cons _ (same-condition t c (events_statement x rest) ∙ ap (tape_condition c) (same-statement x rest))
  same-statement (for t a v l x) k =
      cons _ (same-chain a _ ∙ ap (λ (o : List ℕ). tape_sign a.sign (tape_operand E.FIRST a.first (tape_each tape_term a.rest o)))
      (same_operand E.LIMIT l _ ∙ ap (tape_operand E.LIMIT l) (same-statement x _)))
  same-statement (choose t n xs) k = cons _ (cons _ (same-choices n xs _))

  same_body : (b : Body) → Same (events_body b) (tape_body b)
  same_body (declare d b) k = same-declaration d _ ∙ ap (tape_declaration d) (same_body b k)
  same_body (procedure n r x b) k = cons _ (same-statement x _ ∙ ap (tape_statement x) (cons _ (same_body b k)))
  same_body (items is) k = same-items is k

  same-items : (is : Items) → Same (events_items is) (tape_items is)
  same-items ended k = refl
  same-items (label l is) k = cons _ (same-items is k)
  same-items (item x is) k = same-statement x _ ∙ ap (tape_statement x) (same-items is k)

  same-choices : (t : ℕ) (xs : Choices) → Same (events_choices t xs) (tape_choices t xs)
  same-choices t over k = refl
  same-choices t (choice x xs) k = same-statement x _ ∙ ap (tape_statement x) (cons _ (same-choices t xs k))

pub tree-tape : (x : Statement) → tape_statement x [] ≡ tape_of (events_of x)
tree-tape x = sym (same-statement x [])

-- ── a pass goes along the events ──

-- at its first event
pub pass-first : {M : Type 0} (step : ℕ → ℕ → M → M) (e : Event) (m : M) (es : List Event) → pass step m (tape_of (e ∷ es)) ≡ pass step (step (op_of e) (token_of e) m) (tape_of es)
pass-first step e m es =
    let h : op_of e % E.EVENTS ≡ op_of e = omega (arith, op_fits e) in
    pass-event step (op_of e) (token_of e) m (tape_of es) ∙ ap (λ (n : ℕ). pass step (step n (token_of e) m) (tape_of es)) h

-- R says what the pass's state m has to do with the place and with what f has made so far
module _ {S M : Type 0} (step : ℕ → ℕ → M → M) (f : Event → Place → S → S) (R : Place → S → M → Type 0) (Good : Event → Place → Type 0)
    (turn : (e : Event) (p : Place) (s : S) (m : M) → Good e p → R p s m → R (after e p) (f e p s) (step (op_of e) (token_of e) m)) where
  pub follows : (es : List Event) (p : Place) (s : S) (m : M) → Along Good es p → R p s m → R (after_all es p) (along f es p s) (pass step m (tape_of es))
  unfolding Along after_all along
  follows [] p s m g r = subst (λ (x : M). R p s x) (sym (pass-none step m)) r
  follows (e ∷ es) p s m (g, gs) r =
      subst (λ (x : M). R (after_all es (after e p)) (along f es (after e p) (f e p s)) x) (sym (pass-first step e m es))
      (follows es (after e p) (f e p s) (step (op_of e) (token_of e) m) gs (turn e p s m g r))

-- the same, where the pass keeps what stands open
module _ {S M : Type 0} (step : ℕ → ℕ → M → M) (f : Event → Place → S → S) (R : Place → Context → S → M → Type 0) (Good : Event → Place → Type 0)
    (turn : (e : Event) (p : Place) (c : Context) (s : S) (m : M) → Good e p → Suits e c → R p c s m → R (after e p) (context_after e c) (f e p s) (step (op_of e) (token_of e) m)) where
  pub follows-in : (es : List Event) (p : Place) (c : Context) (s : S) (m : M) → Along Good es p → Coherent es c → R p c s m
      → (c' : Context) × Complete c' × R (after_all es p) c' (along f es p s) (pass step m (tape_of es))
  unfolding Along after_all along Coherent
  follows-in [] p c s m g h r = (c, h, subst (λ (x : M). R p c s x) (sym (pass-none step m)) r)
  follows-in (e ∷ es) p c s m (g, gs) (h, hs) r =
      subst (λ (x : M). (c' : Context) × Complete c' × R (after_all es (after e p)) c' (along f es (after e p) (f e p s)) x) (sym (pass-first step e m es))
      (follows-in es (after e p) (context_after e c) (f e p s) (step (op_of e) (token_of e) m) gs hs (turn e p c s m g h r))
