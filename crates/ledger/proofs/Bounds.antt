-- A program's tape is one that there is room for (`program-narrow`, `program-nested`); what that says at an event of a loop.
use mathlib.Core.Path.{◌≡◌, refl, sym, ap, ◌∙◌}
use mathlib.Core.List.{List, [], ◌∷◌}
use mathlib.Core.Bool.{Bool, true, false, ◌||◌}
use mathlib.Core.Option.{Option, none, some}
use Prim.Native.Nat.{ℕ, suc, ◌+◌, ◌/◌, ◌%◌, ◌≤◌, ◌<◌}
use native.Mathlib.Omega.{arith}
use native.Mathlib.Numerals.{add-one}
use lib.Dec.{eqb}
use lib.ListN.{length, get_or, drop}
use lib.Seq.{drop-cons}
use Rattle.base.proofs.Lists.{all_get_d}
use Rattle.base.proofs.Tests.{never_true}
use Rattle.base.proofs.Numbers.{one_less}
use Rattle.grammar.specs.Tree.{Designator, Operand, Sign, plain, abs, neg, neg_abs, Assignment, Width, Item, Declaration, registers, cells, base, Statement, assign, call, apply, block, goto, null, if_then, if_else, while, for, choose, Body, declare, procedure, items, Items, ended, label, item, Choices, over, choice}
use Rattle.grammar.specs.Derives.{is_program, is_register, nesting_of, body_nesting, items_nesting, choices_nesting}
use Rattle.grammar.specs.Events.{opened, closed, entered, left, labelled, sent, named, celled, itemed, valued, based, Event, edge, route, entry, phrase, mark, aimed, driven, signed, given, joined, tested, limited, called, applied, argued, counted, chosen, looped, ended_if, otherwise, ended_else, ended_while, ended_for, listed, ended_choice, ended_case, each, events_value, events_item, events_register, events_declaration, events_sign, events_term, events_chain, events_arguments, choices_count, events_statement, events_body, events_items, events_choices, events_of}
use Rattle.grammar.specs.Places.{Place, after}
use Rattle.grammar.specs.Texts.{Stands, Text}
use Rattle.grammar.proofs.Texts.{program-text, text-rises}
use Rattle.tape.specs.Events as E
use Rattle.tape.specs.Numbers.{EDGE, ROUTE, ENTRY, layer_at}
use Rattle.tape.specs.Names.{declaring}
use Rattle.tape.specs.Tape.{event, tape_statement}
use Rattle.tape.specs.Written.{layer_of, op_of, token_of, tape_of}
use Rattle.tape.proofs.Numbers.{by_width, op_fits, other-layer}
use Rattle.tape.proofs.Pass.{event-op, event-token}
use Rattle.tape.proofs.Written.{tree-tape}
use Rattle.ledger.specs.Bounds.{noted, Narrow, blocks_open, procedures_open, Nested}
use Rattle.ledger.specs.Book.{thin_limit}

-- ── at an event of a loop ──

pub narrow_at : (tape : List ℕ) (op t i : ℕ) → Narrow tape → op ≡ get_or tape i 0 % E.EVENTS → t ≡ get_or tape i 0 / E.EVENTS → noted op ≡ true → t < thin_limit
narrow_at tape op t i n eo et h =
    let z : noted (0 % E.EVENTS) ≡ true → 0 / E.EVENTS < thin_limit = λ _. omega arith in
    let k = all_get_d (λ (e : ℕ). noted (e % E.EVENTS) ≡ true → e / E.EVENTS < thin_limit) tape i 0 n z (ap noted (sym eo) ∙ h) in
    omega arith

-- where a name is declared its token is written down
pub declaring-noted : (op : ℕ) → declaring op ≡ true → noted op ≡ true
declaring-noted op h = rw h (either (eqb op E.BLOCK) (eqb op E.LABEL))
  where
    either : (a b : Bool) → a || (b || true) ≡ true
    either true b = refl
    either false true = refl
    either false false = refl

pub block_noted : (op : ℕ) → op ≡ E.BLOCK → noted op ≡ true
block_noted op e = rw e

pub label-noted : (op : ℕ) → op ≡ E.LABEL → noted op ≡ true
label-noted op e = rw e

pub nested-here : (most b p : ℕ) (l : List ℕ) → Nested most b p l → (b ≤ most) × (p ≤ most)
unfolding Nested
nested-here most b p [] n = n
nested-here most b p (e ∷ es) n = (n.0, n.1)

pub nested-on : (most b p op i : ℕ) (tape : List ℕ) → i < length tape → op ≡ get_or tape i 0 % E.EVENTS → Nested most b p (drop i tape)
    → Nested most (blocks_open op b) (procedures_open op p) (drop (i + 1) tape)
unfolding Nested
nested-on most b p op i tape h eo n = rw (add-one i, eo) (rw (drop-cons tape i 0 h) at n).2

-- ── a program's tape: its nesting ──

op-of : (e : Event) → event (op_of e) (token_of e) % E.EVENTS ≡ op_of e
op-of e = event-op (op_of e) (token_of e) ∙ omega (arith, op_fits e)

module _ (most : ℕ) where
  record Deep (b p : ℕ) (es : List Event) : Type 0 where
    is : Nested most b p (tape_of es)

  -- events that are no edges leave the levels
  module _ (b p : ℕ) where
    abbrev Quiet : (List Event → List Event) → Type 0
    Quiet out = (k : List Event) → Deep b p k → Deep b p (out k)

    quiet : (e : Event) → eqb (layer_of e) EDGE ≡ false → Quiet (λ k. e ∷ k)
    unfolding Nested layer_at
    quiet e h k n =
        let (x, y) = nested-here most b p (tape_of k) n.is in
        record { is = (x, y, rw (op-of e, other-layer e E.BLOCK h, other-layer e E.END-BLOCK h, other-layer e E.PROCEDURE h, other-layer e E.END-PROCEDURE h) n.is) }

    quiet_each : {A : Type 0} (out : A → List Event → List Event) → ((a : A) → Quiet (out a)) → (xs : List A) → Quiet (each out xs)
    unfolding each
    quiet_each out h [] k n = n
    quiet_each out h (x ∷ xs) k n = h x (each out xs k) (quiet_each out h xs k n)

    quiet-item : (c : Option ℕ) (w : Width) (i : Item) → Quiet (events_item c w i)
    unfolding events_item
    quiet-item c w i k n = quiet (entry (itemed c w i)) refl _ (quiet_each events_value (λ t. quiet (entry (valued t)) refl) i.numbers k n)

    quiet-declaration : (d : Declaration) → Quiet (events_declaration d)
    unfolding events_declaration
    quiet-declaration (registers rs) k n = quiet_each events_register (λ r. quiet (entry (named r)) refl) rs k n
    quiet-declaration (cells c w is) k n = quiet (entry (celled c w)) refl _ (quiet_each (events_item c w) (quiet-item c w) is k n)
    quiet-declaration (base t) k n = quiet (entry (based t)) refl k n

    quiet-sign : (d : Designator) (g : Sign) → Quiet (events_sign d g)
    unfolding events_sign
    quiet-sign d plain k n = n
    quiet-sign d (abs t) k n = quiet (phrase (signed d (abs t))) refl k n
    quiet-sign d (neg t) k n = quiet (phrase (signed d (neg t))) refl k n
    quiet-sign d (neg_abs t) k n = quiet (phrase (signed d (neg_abs t))) refl k n

    quiet-chain : (a : Assignment) → Quiet (events_chain a)
    unfolding events_chain
    quiet-chain a k n =
        quiet-sign a.target a.sign _
        (quiet (phrase (given a.target a.first)) refl _ (quiet_each (events_term a.target) (λ t. quiet (phrase (joined a.target t)) refl) a.rest k n))

    quiet-arguments : (t c : ℕ) (xs : List Operand) → Quiet (events_arguments t c xs)
    unfolding events_arguments
    quiet-arguments t c [] k n = quiet (phrase (counted t c)) refl k n
    quiet-arguments t c (a ∷ xs) k n = quiet (phrase (argued t c a)) refl _ (quiet-arguments t (c + 1) xs k n)

  -- what is inside goes no deeper than the nesting
  abbrev Goes : ℕ → (List Event → List Event) → Type 0
  Goes nesting out = (b p : ℕ) (k : List Event) → b + (p + nesting) ≤ most → Deep b p k → Deep b p (out k)

  mutual
    unfolding events_statement nesting_of Nested

    deep-statement : (x : Statement) → Goes (nesting_of x) (events_statement x)
    deep-statement (assign a) b p k h n = quiet b p (phrase (aimed a.target)) refl _ (quiet-chain b p a k n)
    deep-statement (call t) b p k h n = quiet b p (phrase (called t)) refl k n
    deep-statement (apply t a xs) b p k h n = quiet b p (phrase (applied t)) refl _ (quiet-arguments b p t 0 (a ∷ xs) k n)
    deep-statement (block t s) b p k h n =
        record {
          is = (
            omega arith,
            omega arith,
            rw (event-op E.BLOCK t) (deep_body s (suc b) p (edge (closed t) ∷ k) (omega arith)
                (record { is = (omega arith, omega arith, rw (event-op E.END-BLOCK t, one_less b) n.is) })).is,
          );
        }
    deep-statement (goto t l) b p k h n = quiet b p (route (sent t l)) refl k n
    deep-statement null b p k h n = n
    deep-statement (if_then t c x) b p k h n = quiet b p (phrase (tested t c)) refl _ (deep-statement x b p _ (omega arith) (quiet b p (mark (ended_if t)) refl k n))
    deep-statement (if_else t c x e y) b p k h n =
        quiet b p (phrase (tested t c)) refl _ (deep-statement x b p _ (omega arith)
        (quiet b p (mark (otherwise t)) refl _ (deep-statement y b p _ (omega arith) (quiet b p (mark (ended_else t)) refl k n))))
    deep-statement (while t c x) b p k h n =
        quiet b p (mark (looped t)) refl _ (quiet b p (phrase (tested t c)) refl _ (deep-statement x b p _ (omega arith) (quiet b p (mark (ended_while t)) refl k n)))
    deep-statement (for t a v l x) b p k h n =
        quiet b p (phrase (driven a.target)) refl _
        (quiet-chain b p a _ (quiet b p (phrase (limited a.target v l)) refl _ (deep-statement x b p _ (omega arith) (quiet b p (mark (ended_for v)) refl k n))))
    deep-statement (choose t r xs) b p k h n =
        quiet b p (mark (listed (choices_count xs))) refl _
        (quiet b p (phrase (chosen r)) refl _ (deep-choices r xs b p _ (omega arith) (quiet b p (mark (ended_case r)) refl k n)))

    deep_body : (s : Body) → Goes (body_nesting s) (events_body s)
    deep_body (declare d s) b p k h n = quiet-declaration b p d _ (deep_body s b p k h n)
    deep_body (procedure t r x s) b p k h n =
        record {
          is = (
            omega arith,
            omega arith,
            rw (event-op E.PROCEDURE t) (deep-statement x b (suc p) (edge (left t) ∷ events_body s k) (omega arith)
                (record { is = (omega arith, omega arith, rw (event-op E.END-PROCEDURE t, one_less p) (deep_body s b p k (omega arith) n).is) })).is,
          );
        }
    deep_body (items is) b p k h n = deep-items is b p k h n

    deep-items : (is : Items) → Goes (items_nesting is) (events_items is)
    deep-items ended b p k h n = n
    deep-items (label l is) b p k h n = quiet b p (route (labelled l)) refl _ (deep-items is b p k h n)
    deep-items (item x is) b p k h n = deep-statement x b p _ (omega arith) (deep-items is b p k (omega arith) n)

    deep-choices : (t : ℕ) (xs : Choices) → Goes (choices_nesting xs) (events_choices t xs)
    deep-choices t over b p k h n = n
    deep-choices t (choice x xs) b p k h n = deep-statement x b p _ (omega arith) (quiet b p (mark (ended_choice t)) refl _ (deep-choices t xs b p k (omega arith) n))

pub program-nested : (most : ℕ) (x : Statement) → nesting_of x ≤ most → Nested most 0 0 (tape_statement x [])
unfolding Nested
program-nested most x h = rw (tree-tape x) (deep-statement most x 0 0 [] (omega arith) (record { is = (omega arith, omega arith) })).is

-- ── a program's tape: its tokens ──

not_noted : (e : Event) → eqb (layer_of e) EDGE ≡ false → eqb (layer_of e) ROUTE ≡ false → eqb (layer_of e) ENTRY ≡ false → noted (op_of e) ≡ false
unfolding layer_at
not_noted e a b c = rw (other-layer e E.BLOCK a, other-layer e E.LABEL b, other-layer e E.REGISTER c, other-layer e E.ITEM c, other-layer e E.PROCEDURE a)

module _ (kinds : List ℕ) where
  noted-before : (e : Event) (p : Place) (i : ℕ) (s : Stands kinds e p i) → noted (op_of e) ≡ true → token_of e < s.to
  unfolding is_register
  noted-before (edge (opened t ls)) p i s h = let (a, b, c) = s.is in omega arith
  noted-before (edge (closed t)) p i s h = never_true h
  noted-before (edge (entered n r)) p i s h = let a = s.is in omega arith
  noted-before (edge (left n)) p i s h = never_true h
  noted-before (route (labelled l)) p i s h = let a = s.is in omega arith
  noted-before (route (sent t n)) p i s h = never_true h
  noted-before (entry (named r)) p i s h = let a = s.is in omega arith
  noted-before (entry (celled none w)) p i s h = by_width (λ f. noted (E.SINGLE-FULL + f) ≡ true → 0 < s.to) never_true never_true never_true never_true w h
  noted-before (entry (celled (some c) w)) p i s h = by_width (λ f. noted (E.ARRAY-FULL + f) ≡ true → c < s.to) never_true never_true never_true never_true w h
  noted-before (entry (itemed c w x)) p i s h = let a = s.is in omega arith
  noted-before (entry (valued t)) p i s h = never_true h
  noted-before (entry (based n)) p i s h = never_true h
  noted-before (phrase f) p i s h = never_true (sym (not_noted (phrase f) refl refl refl) ∙ h)
  noted-before (mark m) p i s h = never_true (sym (not_noted (mark m) refl refl refl) ∙ h)

  narrow-text : (es : List Event) (p : Place) (i j : ℕ) → j ≤ thin_limit → Text kinds es p i j → Narrow (tape_of es)
  unfolding Text
  narrow-text [] p i j m h = tt
  narrow-text (e ∷ es) p i j m (s, h) =
      let r = text-rises kinds es (after e p) s.to j h in
      ((λ n. rw (event-token (op_of e) (token_of e)) (let q = noted-before e p i s (ap noted (sym (op-of e)) ∙ n) in omega arith)), narrow-text es (after e p) s.to j m h)

pub program-narrow : (kinds : List ℕ) (x : Statement) (i j : ℕ) → is_program kinds x i j → j ≤ thin_limit → Narrow (tape_statement x [])
program-narrow kinds x i j h m = rw (tree-tape x) (narrow-text kinds (events_of x) [] i j m (program-text kinds x i j h))
