-- On the tape of a program the rules that are judged are the definition's, event by event. What stands at a fixed distance from an event's token does so by the
-- grammar; the values of a cell, which the definition judges with it, are judged as they come.
use mathlib.Core.Path.{◌≡◌, refl, ap, ap₂, sym, ◌∙◌}
use mathlib.Core.List.{List, [], ◌∷◌, ◌++◌, map}
use mathlib.Core.Bool.{Bool, true, false, not, ◌&&◌}
use mathlib.Core.Option.{Option, none, some}
use Prim.Native.Nat.{ℕ, zero, suc, ◌+◌, ◌-◌}
use native.Mathlib.Omega.{arith}
use lib.Dec.{leb}
use lib.ListN.{length, drop}
use borrow.Author.Tests.{ne_eqb}
use Rattle.base.specs.Lists.{member}
use Rattle.grammar.specs.Tree.{Designator, Operand, Sign, plain, abs, neg, neg_abs, Term, Condition, compared, bare, Item, Statement, Width, full, short, byte}
use Rattle.grammar.specs.Pinned.{head_of}
use Rattle.grammar.proofs.Pinned.{pinned-designator, pinned-operand}
use Rattle.grammar.specs.Derives.{is_designator, is_operand, is_condition, is_register, is_program}
use Rattle.grammar.specs.Events.{Edge, opened, closed, entered, left, Route, labelled, sent, Entry, named, celled, itemed, valued, based, Phrase, aimed, driven, signed, given, joined, tested, limited, called, applied, argued, counted, chosen, Mark, looped, otherwise, ended_if, ended_else, ended_while, ended_for, listed, ended_choice, ended_case, Event, edge, route, entry, phrase, mark, events_of}
use Rattle.grammar.specs.Places.{Block, within, body, Place, after}
use Rattle.grammar.specs.Contexts.{Context, nowhere, aiming, applying, declaring, context_after, Complete, Aims, Shown, EntrySuits, PhraseSuits, Suits}
use Rattle.grammar.proofs.Contexts.{program-coherent}
use Rattle.grammar.specs.Texts.{InBlock, EdgeFits, RouteFits, is_event, Stands}
use Rattle.grammar.proofs.Texts.{program-text, text-stands}
use Rattle.tape.specs.Events as E
use Rattle.tape.specs.Numbers.{layer_at, form_at}
use Rattle.tape.specs.Tape.{tape_statement, shape, width_of}
use Rattle.tape.specs.Pass.{pass}
use Rattle.tape.specs.Written.{operand_shape, sign_code, condition_code, op_of, token_of}
use Rattle.tape.proofs.Numbers.{by_shape, by-operand, by_width}
use Rattle.tape.proofs.Written.{tree-tape, follows-in}
use Rattle.scopes.specs.declared.Refusal.TheVariants.{Misfit, Protected, OutOfBounds}
use Rattle.scopes.specs.Broken.{Ruling, unbroken, rule, broken, ◌⊕◌}
use Rattle.scopes.proofs.Joins.{join-right, join-assoc}
use Rattle.static_rules.specs.Functions.{Argument}
use Rattle.static_rules.specs.Meaning.{Meaning, nothing, register, cell, routine, function, register_of, argument_of}
use Rattle.static_rules.specs.Meanings.{count_of}
use Rattle.static_rules.specs.Tables.{Tables, value_at, meaning_at}
use Rattle.static_rules.specs.Rules as R
use Rattle.static_rules.specs.Rules.{bare_name}
use Rattle.static_rules.specs.Kinds.{kept_in, rules_at, rule_event, rules_of}
use Rattle.static_rules.proofs.Elements.{range-is, from_zero}
use Rattle.static_rules.proofs.Unbroken.{rules-onto}
use Rattle.tables.specs.Packed.{width_by}
use Rattle.rules.specs.Parts.{designator_at, operand_at}
use Rattle.judge.specs.declared.Open.{Open}
use Rattle.judge.specs.declared.Target.{Target}
use Rattle.judge.specs.declared.Target.TheVariants.{Unfit}
use Rattle.judge.specs.Along.{Held, held_after, cells_of, cells_after, value_rule, aim_of, open_of, open_after, aim_by, control_by, sign_rule, first_rules, chain_rule, declaration_rule, assignment_rule, statement_rule, event_rule, Judging, judge_event, beginning}
use Rattle.judge.proofs.Parts.{designator-at, operand-at}

-- ── the protected registers at a place ──

-- how many bases the innermost block has so far, and the blocks around it
abbrev count_in : Place → ℕ
count_in [] = 0
count_in (within b ∷ p) = length b.bases
count_in (body n r ∷ p) = count_in p

abbrev counts_in : Place → List ℕ
counts_in [] = []
counts_in (within b ∷ p) = count_in p ∷ counts_in p
counts_in (body n r ∷ p) = counts_in p

width_is : (w : Width) → width_by (width_of w) ≡ w
width_is full = refl
width_is short = refl
width_is (byte false) = refl
width_is (byte true) = refl

module _ (f : Tables) where
  abbrev held_in : Place → Held
  held_in p = record { kept = kept_in f p; count = count_in p; counts = counts_in p }

  -- the bases of a block are dropped at its end
  bases-dropped : (g : ℕ → ℕ) (ns k : List ℕ) → drop (length ns) (map g ns ++ k) ≡ k
  bases-dropped g [] k = refl
  bases-dropped g (n ∷ ns) k = bases-dropped g ns k

  -- ── the loop's state, by what stands open ──

  abbrev at : Place → (s n room : ℕ) → Open → Ruling → Judging
  at p s n room g b = record { held = held_in p; cells = cells_of s n room; standing = g; broken = b }

  -- what the definition has judged already: the values that are still to come
  abbrev pending : Context → ℕ → Ruling
  pending nowhere room = unbroken
  pending (aiming d) room = unbroken
  pending (applying n p) room = unbroken
  pending (declaring n w ts) room = R.value_rules f w room ts

  abbrev Opens : Context → (s n : ℕ) → Open → Type 0
  Opens nowhere s n g = Unit {0}
  Opens (aiming d) s n g = g.target ≡ aim_of (meaning_at f d.name)
  Opens (applying t y) s n g = (g.name ≡ t) × (g.position ≡ y)
  Opens (declaring c w ts) s n g = (s ≡ width_of w) × (n ≡ count_of f.values c)

  pub record At (p : Place) (c : Context) (b : Ruling) (j : Judging) : Type 0 where
    width : ℕ
    elements : ℕ
    room : ℕ
    standing : Open
    judged : Ruling
    is : j ≡ at p width elements room standing judged
    opens : Opens c width elements standing
    all : b ≡ judged ⊕ pending c room

  complete : (c : Context) (room : ℕ) (b x : Ruling) → Complete c → b ≡ x ⊕ pending c room → b ≡ x
  unfolding R.value_rules
  complete nowhere room b x d e = e ∙ join-right x
  complete (aiming d) room b x h e = e ∙ join-right x
  complete (declaring n w ts) room b x d e = e ∙ (ap (λ (l : List ℕ). x ⊕ R.value_rules f w room l) d ∙ join-right x)
  complete (applying name position) room b x d e = elim d [ ]

  abbrev step : ℕ → ℕ → Judging → Judging
  step op t j = judge_event f op t j

  -- an event that is judged by its rules, and after which no value is to come
  judged : (e : Event) (p : Place) (c : Context) (b : Ruling) (s n room : ℕ) (g : Open) (x : Ruling) (s' n' room' : ℕ) (g' : Open) → b ≡ x → Opens (context_after e c) s' n' g'
      → ((y : Ruling) → y ⊕ pending (context_after e c) room' ≡ y) → step (op_of e) (token_of e) (at p s n room g x) ≡ at (after e p) s' n' room' g' (x ⊕ rules_at f e p)
      → At (after e p) (context_after e c) (rule_event f e p b) (step (op_of e) (token_of e) (at p s n room g x))
  unfolding rule_event
  judged e p c b s n room g x s' n' room' g' h o w k = record {
    width = s';
    elements = n';
    room = room';
    standing = g';
    judged = x ⊕ rules_at f e p;
    is = k;
    opens = o;
    all = ap (λ (y : Ruling). y ⊕ rules_at f e p) h ∙ sym (w (x ⊕ rules_at f e p));
  }

  module _ (kinds : List ℕ) where
    -- ── edges, routes and marks ──

    turn-edge : (x : Edge) (p : Place) (s n room : ℕ) (g : Open) (y : Ruling) → EdgeFits x p → (i j : ℕ) → is_event kinds (edge x) i j
        → step (op_of (edge x)) (token_of (edge x)) (at p s n room g y) ≡ at (after (edge x) p) s n room g (y ⊕ rules_at f (edge x) p)
    unfolding judge_event held_after cells_after open_after event_rule declaration_rule layer_at form_at
    turn-edge (opened t ls) p s n room g y u i j h = refl
    turn-edge (closed t) (within b ∷ p) s n room g y u i j h = rw (bases-dropped (λ (m : ℕ). register_of (meaning_at f m)) b.bases (kept_in f p))
    turn-edge (entered m r) (within b ∷ p) s n room g y u i j h = let e : r ≡ m + 2 = omega (arith, h.1.0, h.1.2.1.0) in rw e
    turn-edge (left m) (body k r ∷ p) s n room g y u i j h = refl
    turn-edge (closed t) [] s n room g y u i j h = elim u [ ]
    turn-edge (closed t) (body k r ∷ p) s n room g y u i j h = elim u [ ]
    turn-edge (entered m r) [] s n room g y u i j h = elim u [ ]
    turn-edge (entered m r) (body k return ∷ p) s n room g y u i j h = elim u [ ]
    turn-edge (left m) [] s n room g y u i j h = elim u [ ]
    turn-edge (left m) (within b ∷ p) s n room g y u i j h = elim u [ ]

    turn-route : (x : Route) (p : Place) (s n room : ℕ) (g : Open) (y : Ruling) → RouteFits x p
        → step (op_of (route x)) (token_of (route x)) (at p s n room g y) ≡ at (after (route x) p) s n room g (y ⊕ rules_at f (route x) p)
    unfolding judge_event held_after cells_after open_after event_rule declaration_rule statement_rule assignment_rule layer_at form_at
    turn-route (labelled l) (within b ∷ p) s n room g y u = refl
    turn-route (sent t m) p s n room g y u = refl
    turn-route (labelled l) [] s n room g y u = elim u [ ]
    turn-route (labelled l) (body name return ∷ p) s n room g y u = elim u [ ]

    turn-mark : (x : Mark) (p : Place) (s n room : ℕ) (g : Open) (y : Ruling) → step (op_of (mark x)) (token_of (mark x)) (at p s n room g y) ≡ at p s n room g (y ⊕ unbroken)
    unfolding judge_event held_after cells_after open_after event_rule declaration_rule layer_at form_at
    turn-mark (looped t) p s n room g y = refl
    turn-mark (otherwise t) p s n room g y = refl
    turn-mark (ended_if t) p s n room g y = refl
    turn-mark (ended_else t) p s n room g y = refl
    turn-mark (ended_while t) p s n room g y = refl
    turn-mark (ended_for v) p s n room g y = refl
    turn-mark (listed k) p s n room g y = refl
    turn-mark (ended_choice t) p s n room g y = refl
    turn-mark (ended_case t) p s n room g y = refl

    -- ── entries ──

    -- a cell, whose values are still to come
    turn-item : (m : Option ℕ) (w : Width) (y : Item) (c : Context) (k : Block) (p : Place) (b : Ruling) (s n room : ℕ) (g : Open) (x : Ruling) → EntrySuits (itemed m w y) c
        → Opens c s n g → b ≡ x ⊕ pending c room
        → At (after (entry (itemed m w y)) (within k ∷ p)) (declaring m w y.numbers) (rule_event f (entry (itemed m w y)) (within k ∷ p) b) (step E.ITEM y.name (at (within k ∷ p) s n room g x))
    unfolding judge_event held_after cells_after open_after event_rule declaration_rule rule_event layer_at form_at
    turn-item m w y (declaring m' w' ts) k p b s n room g x q o e =
        let u = complete (declaring m' w' ts) room b x q.2 e in
        let v = o.1 ∙ ap (count_of f.values) q.0 in
        record {
          width = s;
          elements = n;
          room = n;
          standing = g;
          judged = x ⊕ unbroken;
          is = refl;
          opens = (o.0 ∙ ap width_of q.1, v);
          all = ap₂ (λ (z : Ruling) (l : ℕ). z ⊕ R.value_rules f w l y.numbers) (u ∙ sym (join-right x)) (sym v);
        }
    turn-item m w y nowhere k p b s n room g x q o e = elim q [ ]
    turn-item m w y (aiming _) k p b s n room g x q o e = elim q [ ]
    turn-item m w y (applying name position) k p b s n room g x q o e = elim q [ ]

    value-judged : (w : Width) (s n room t : ℕ) (ts : List ℕ) (x : Ruling) → s ≡ width_of w
        → x ⊕ R.value_rules f w room (t ∷ ts) ≡ (x ⊕ value_rule (cells_of s n room) (value_at f t) t) ⊕ R.value_rules f w (room - 1) ts
    unfolding R.value_rules value_rule
    value-judged w s n zero t ts x e = sym (join-assoc x (broken OutOfBounds t) (R.value_rules f w zero ts))
    value-judged w s n (suc room) t ts x e =
        let u : suc room - 1 ≡ room = omega arith in
        let v : width_by s ≡ w = ap width_by e ∙ width_is w in
        rw (u, ne_eqb (suc room) 0 (λ q. omega arith), v) (sym (join-assoc x (rule (R.fits_width w (value_at f t)) OutOfBounds t) (R.value_rules f w room ts)))

    turn-value : (t : ℕ) (c : Context) (k : Block) (p : Place) (b : Ruling) (s n room : ℕ) (g : Open) (x : Ruling) → EntrySuits (valued t) c → Opens c s n g → b ≡ x ⊕ pending c room
        → At (after (entry (valued t)) (within k ∷ p)) (context_after (entry (valued t)) c) (rule_event f (entry (valued t)) (within k ∷ p) b) (step E.VALUE t (at (within k ∷ p) s n room g x))
    unfolding judge_event held_after cells_after open_after event_rule declaration_rule rule_event layer_at form_at
    turn-value t (declaring m w (v ∷ ts)) k p b s n room g x q o e = record {
      width = s;
      elements = n;
      room = room - 1;
      standing = g;
      judged = x ⊕ value_rule (cells_of s n room) (value_at f t) t;
      is = refl;
      opens = o;
      all = join-right b ∙ (e ∙ (ap (λ (u : ℕ). x ⊕ R.value_rules f w room (u ∷ ts)) q ∙ value-judged w s n room t ts x o.0));
    }
    turn-value t nowhere k p b s n room g x q o e = elim q [ ]
    turn-value t (aiming _) k p b s n room g x q o e = elim q [ ]
    turn-value t (applying name position) k p b s n room g x q o e = elim q [ ]
    turn-value t (declaring m w []) k p b s n room g x q o e = elim q [ ]

    turn-entry : (d : Entry) (p : Place) (c : Context) (b : Ruling) (s n room : ℕ) (g : Open) (x : Ruling) → InBlock p → (i j : ℕ) → is_event kinds (entry d) i j → EntrySuits d c → Opens c s n g
        → b ≡ x ⊕ pending c room → At (after (entry d) p) (context_after (entry d) c) (rule_event f (entry d) p b) (step (op_of (entry d)) (token_of (entry d)) (at p s n room g x))
    unfolding judge_event held_after cells_after open_after event_rule declaration_rule is_register R.value_rules layer_at form_at
    turn-entry (named r) (within k ∷ p) c b s n room g x u i j h q o e =
        let l : r.number ≡ r.name + 2 = omega (arith, h.0, h.2.1.0) in
        judged (entry (named r)) (within k ∷ p) c b s n room g x s n room g (complete c room b x q e) tt join-right (rw (l, from_zero 15 (value_at f (r.name + 2)) (omega arith)))
    turn-entry (celled none w) (within k ∷ p) c b s n room g x u i j h q o e =
        judged (entry (celled none w)) (within k ∷ p) c b s n room g x (width_of w) 1 room g (complete c room b x q e) (refl, refl) join-right
        (by_width (λ v. step (E.SINGLE-FULL + v) 0 (at (within k ∷ p) s n room g x) ≡ at (within k ∷ p) v 1 room g (x ⊕ unbroken)) refl refl refl refl w)
    turn-entry (celled (some t) w) (within k ∷ p) c b s n room g x u i j h q o e =
        judged (entry (celled (some t) w)) (within k ∷ p) c b s n room g x (width_of w) (value_at f t) room g (complete c room b x q e) (refl, refl) join-right
        (rw (range-is 1 2048 (value_at f t) (omega arith))
        (by_width
        (λ v. step (E.ARRAY-FULL + v) t (at (within k ∷ p) s n room g x)
        ≡ at (within k ∷ p) v (value_at f t) room g (x ⊕ rule (leb 1 (value_at f t) && leb (value_at f t) 2048) OutOfBounds t)) refl refl refl refl w))
    turn-entry (itemed m w y) (within k ∷ p) c b s n room g x u i j h q o e = turn-item m w y c k p b s n room g x q o e
    turn-entry (valued t) (within k ∷ p) c b s n room g x u i j h q o e = turn-value t c k p b s n room g x q o e
    turn-entry (based t) (within k ∷ p) c b s n room g x u i j h q o e =
        judged (entry (based t)) (within k ∷ p) c b s n room g x s n room g (complete c room b x q e) tt join-right refl
    turn-entry (named r) [] c b s n room g x u i j h q o e = elim u [ ]
    turn-entry (named r) (body name return ∷ p) c b s n room g x u i j h q o e = elim u [ ]
    turn-entry (celled none w) [] c b s n room g x u i j h q o e = elim u [ ]
    turn-entry (celled none w) (body name return ∷ p) c b s n room g x u i j h q o e = elim u [ ]
    turn-entry (celled (some t) w) [] c b s n room g x u i j h q o e = elim u [ ]
    turn-entry (celled (some t) w) (body name return ∷ p) c b s n room g x u i j h q o e = elim u [ ]
    turn-entry (itemed m w y) [] c b s n room g x u i j h q o e = elim u [ ]
    turn-entry (itemed m w y) (body name return ∷ p) c b s n room g x u i j h q o e = elim u [ ]
    turn-entry (valued t) [] c b s n room g x u i j h q o e = elim u [ ]
    turn-entry (valued t) (body name return ∷ p) c b s n room g x u i j h q o e = elim u [ ]
    turn-entry (based t) [] c b s n room g x u i j h q o e = elim u [ ]
    turn-entry (based t) (body name return ∷ p) c b s n room g x u i j h q o e = elim u [ ]

    -- ── phrases ──

    -- what holds is joined to no effect
    none-joined : (y : Ruling) → y ≡ y ⊕ (unbroken ⊕ unbroken)
    none-joined y = sym (ap (λ (z : Ruling). y ⊕ z) (join-right unbroken) ∙ join-right y)

    alone : (h : Bool) (t : ℕ) → rule h Protected t ≡ unbroken ⊕ rule h Protected t
    unfolding rule ◌⊕◌
    alone true t = refl
    alone false t = refl

    -- the loop judges a target by what it means, as the definition does
    aim_same : (d : Designator) (kept : List ℕ) (m : Meaning)
        → aim_by f kept d m ≡ R.place_by f m d ⊕ (rule (not (R.is_byte_cell m)) Misfit d.name ⊕ R.target_by f m kept d.name)
    unfolding rule R.write_rule
    aim_same d kept nothing = none-joined _
    aim_same d kept (register r) = ap (λ (y : Ruling). rule (bare_name d) Misfit d.name ⊕ y) (alone (not (member r kept)) d.name)
    aim_same d kept (cell c) = ap (λ (y : Ruling). R.place_by f (cell c) d ⊕ y) (sym (join-right _))
    aim_same d kept (routine r) = none-joined _
    aim_same d kept (function k) = none-joined _

    control-same : (d : Designator) (kept : List ℕ) (m : Meaning) → control_by kept d m ≡ rule (R.is_register m && bare_name d) Misfit d.name ⊕ R.target_by f m kept d.name
    unfolding rule
    control-same d kept nothing = sym (join-right _)
    control-same d kept (register r) = refl
    control-same d kept (cell c) = sym (join-right _)
    control-same d kept (routine r) = sym (join-right _)
    control-same d kept (function k) = sym (join-right _)

    first-same : (m : Meaning) (a : Operand) → first_rules f (aim_of m) a ≡ R.first_by f m a
    unfolding first_rules
    first-same nothing a = refl
    first-same (register r) a = refl
    first-same (cell c) a = refl
    first-same (routine r) a = refl
    first-same (function k) a = refl

    chain_same : (m : Meaning) (kept : List ℕ) (k u : ℕ) (t : Term) → u - 1 ≡ t.operator → operand_at k u ≡ t.operand → chain_rule f kept (aim_of m) k u ≡ R.term_by f m kept t
    unfolding chain_rule
    chain_same nothing kept k u t e o = refl
    chain_same (register r) kept k u t e o = ap₂ (λ (x : ℕ) (a : Operand). R.term_rules f kept r (record { operator = x; operand = a })) e o
    chain_same (cell c) kept k u t e o = ap (λ (x : ℕ). broken Misfit x) e
    chain_same (routine r) kept k u t e o = refl
    chain_same (function y) kept k u t e o = refl

    sign_same : (m : Meaning) (t : ℕ) (y : Sign) → R.no_sign y ≡ broken Misfit t → sign_rule (aim_of m) t ≡ R.sign_by m y
    unfolding sign_rule
    sign_same nothing t y e = refl
    sign_same (register r) t y e = refl
    sign_same (cell c) t y e = sym e
    sign_same (routine r) t y e = refl
    sign_same (function k) t y e = refl

    module _ (p : Place) (s n room : ℕ) (g : Open) (x : Ruling) where
      abbrev here : Judging
      here = at p s n room g x

      abbrev judged_by : Open → Ruling → Judging
      judged_by g y = at p s n room g (x ⊕ y)

      -- the target that is named next
      abbrev aiming_at : Target → Open
      aiming_at y = open_of y g.name g.position

      -- an argument more
      abbrev further : Open
      further = open_of g.target g.name (g.position + 1)

      aimed-is : (d : Designator) (i j : ℕ) → is_designator kinds d i j
          → step (E.TARGET + shape d) d.name here ≡ judged_by (aiming_at (aim_of (meaning_at f d.name))) (R.target_rules f (kept_in f p) d)
      unfolding judge_event held_after cells_after open_after event_rule statement_rule assignment_rule layer_at form_at R.target_rules R.place_rules R.no_byte
      aimed-is d i j h =
          let m = meaning_at f d.name in
          by_shape (λ k. step (E.TARGET + k) d.name here ≡ judged_by (aiming_at (aim_of m)) (aim_by f (kept_in f p) (designator_at k d.name) m)) refl refl refl refl d.subscript d.index
          ∙ ap (judged_by (aiming_at (aim_of m))) (ap (λ (y : Designator). aim_by f (kept_in f p) y m) (designator-at d (pinned-designator kinds d i j h).1) ∙ aim_same d (kept_in f p) m)

      driven-is : (d : Designator) (i j : ℕ) → is_designator kinds d i j
          → step (E.CONTROL + shape d) d.name here ≡ judged_by (aiming_at (aim_of (meaning_at f d.name))) (R.control_rules f (kept_in f p) d)
      unfolding judge_event held_after cells_after open_after event_rule statement_rule assignment_rule layer_at form_at R.control_rules R.only_register
      driven-is d i j h =
          let m = meaning_at f d.name in
          by_shape (λ k. step (E.CONTROL + k) d.name here ≡ judged_by (aiming_at (aim_of m)) (control_by (kept_in f p) (designator_at k d.name) m)) refl refl refl refl d.subscript d.index
          ∙ ap (judged_by (aiming_at (aim_of m))) (ap (λ (y : Designator). control_by (kept_in f p) y m) (designator-at d (pinned-designator kinds d i j h).1) ∙ control-same d (kept_in f p) m)

      signed_is : (m : Meaning) (y : Sign) → Shown y → g.target ≡ aim_of m → step ((sign_code y).family + (sign_code y).form) (sign_code y).token here ≡ judged_by g (R.sign_by m y)
      unfolding judge_event held_after cells_after open_after event_rule statement_rule assignment_rule layer_at form_at
      signed_is m (abs t) q e = ap (judged_by g) (ap (λ (z : Target). sign_rule z t) e ∙ sign_same m t (abs t) refl)
      signed_is m (neg t) q e = ap (judged_by g) (ap (λ (z : Target). sign_rule z t) e ∙ sign_same m t (neg t) refl)
      signed_is m (neg_abs t) q e = ap (judged_by g) (ap (λ (z : Target). sign_rule z t) e ∙ sign_same m t (neg_abs t) refl)
      signed_is m plain q e = elim q [ ]

      given_is : (m : Meaning) (a : Operand) (i j : ℕ) → is_operand kinds a i j → g.target ≡ aim_of m → step (E.FIRST + operand_shape a) (head_of a) here ≡ judged_by g (R.first_by f m a)
      unfolding judge_event held_after cells_after open_after event_rule statement_rule assignment_rule layer_at form_at
      given_is m a i j h e =
          by-operand (λ k. step (E.FIRST + k) (head_of a) here ≡ judged_by g (first_rules f g.target (operand_at k (head_of a)))) refl refl refl refl refl a
          ∙ ap (judged_by g) (ap₂ (λ (z : Target) (y : Operand). first_rules f z y) e (operand-at a (pinned-operand kinds a i j h).1) ∙ first-same m a)

      joined_is : (m : Meaning) (t : Term) (i j : ℕ) → t.operator ≡ i → is_operand kinds t.operand (i + 1) j → g.target ≡ aim_of m
          → step (E.TERM + operand_shape t.operand) (head_of t.operand) here ≡ judged_by g (R.term_by f m (kept_in f p) t)
      unfolding judge_event held_after cells_after open_after event_rule statement_rule assignment_rule layer_at form_at
      joined_is m t i j o h e =
          let a = t.operand in
          let q = pinned-operand kinds a (i + 1) j h in
          by-operand (λ k. step (E.TERM + k) (head_of a) here ≡ judged_by g (chain_rule f (kept_in f p) g.target k (head_of a))) refl refl refl refl refl a
          ∙ ap (judged_by g)
          (ap (λ (z : Target). chain_rule f (kept_in f p) z (operand_shape a) (head_of a)) e ∙ chain_same m (kept_in f p) (operand_shape a) (head_of a) t (omega (arith, q.0)) (operand-at a q.1))

      operand-is : (a : Operand) (i j : ℕ) → is_operand kinds a i j → step (E.LIMIT + operand_shape a) (head_of a) here ≡ judged_by g (R.operand_rules f a)
      unfolding judge_event held_after cells_after open_after event_rule statement_rule assignment_rule layer_at form_at
      operand-is a i j h =
          by-operand (λ k. step (E.LIMIT + k) (head_of a) here ≡ judged_by g (R.operand_rules f (operand_at k (head_of a)))) refl refl refl refl refl a
          ∙ ap (λ (y : Operand). judged_by g (R.operand_rules f y)) (operand-at a (pinned-operand kinds a i j h).1)

      tested-is : (c : Condition) (i j : ℕ) → is_condition kinds c i j → step ((condition_code c).family + (condition_code c).form) (condition_code c).token here ≡ judged_by g (R.condition_rules f c)
      unfolding judge_event held_after cells_after open_after event_rule statement_rule assignment_rule layer_at form_at is_condition R.condition_rules
      tested-is (compared m r a) i j h =
          let q = pinned-operand kinds a _ _ h.2.2 in
          let e : head_of a - 2 ≡ m = omega (arith, h.0, q.0) in
          by-operand (λ k. step (E.COMPARED + k) (head_of a) here ≡ judged_by g (R.register_rule f (head_of a - 2) ⊕ R.operand_rules f (operand_at k (head_of a)))) refl refl refl refl refl a
          ∙ ap₂ (λ (u : ℕ) (y : Operand). judged_by g (R.register_rule f u ⊕ R.operand_rules f y)) e (operand-at a q.1)
      tested-is (bare r) i j h = refl

      argued-is : (a : Operand) (i j t y : ℕ) → is_operand kinds a i j → g.name ≡ t → g.position ≡ y
          → step (E.ARGUED + operand_shape a) (head_of a) here ≡ judged_by further (R.argument_rules f (kept_in f p) (argument_of (meaning_at f t) y) a)
      unfolding judge_event held_after cells_after open_after event_rule statement_rule assignment_rule layer_at form_at
      argued-is a i j t y h u v =
          by-operand
          (λ k. step (E.ARGUED + k) (head_of a) here ≡ judged_by further (R.argument_rules f (kept_in f p) (argument_of (meaning_at f g.name) g.position) (operand_at k (head_of a))))
          refl refl refl refl refl a
          ∙ ap₂ (λ (m : Argument) (z : Operand). judged_by further (R.argument_rules f (kept_in f p) m z)) (ap₂ (λ (k l : ℕ). argument_of (meaning_at f k) l) u v)
          (operand-at a (pinned-operand kinds a i j h).1)

      applied-is : (t : ℕ) → step E.APPLIED t here ≡ judged_by (open_of g.target t 0) unbroken
      unfolding judge_event held_after cells_after open_after event_rule statement_rule assignment_rule layer_at form_at
      applied-is t = refl

      counted_is : (t y : ℕ) → g.position ≡ y → step E.COUNTED t here ≡ judged_by g (R.count_by (meaning_at f t) t y)
      unfolding judge_event held_after cells_after open_after event_rule statement_rule assignment_rule layer_at form_at
      counted_is t y v = ap (λ (k : ℕ). judged_by g (R.count_by (meaning_at f t) t k)) v

      chosen_is : (t : ℕ) → step E.CHOSEN t here ≡ judged_by g (R.taken_rules f (kept_in f p) t)
      unfolding judge_event held_after cells_after open_after event_rule statement_rule assignment_rule layer_at form_at
      chosen_is t = refl

    call_step : (p : Place) (s n room : ℕ) (g : Open) (x : Ruling) (t : ℕ) → step E.CALL t (at p s n room g x) ≡ at p s n room g (x ⊕ R.call_rules f (kept_in f p) t)
    unfolding judge_event held_after cells_after open_after event_rule statement_rule assignment_rule layer_at form_at
    call_step p s n room g x t = refl

    turn_signed : (d : Designator) (y : Sign) (p : Place) (c : Context) (b : Ruling) (s n room : ℕ) (g : Open) (x : Ruling) → Aims d c → Shown y → Opens c s n g → b ≡ x ⊕ pending c room
        → At p c (rule_event f (phrase (signed d y)) p b) (step (op_of (phrase (signed d y))) (token_of (phrase (signed d y))) (at p s n room g x))
    turn_signed d y p (aiming z) b s n room g x q w o e =
        judged (phrase (signed d y)) p (aiming z) b s n room g x s n room g (complete (aiming z) room b x tt e) o join-right
        (signed_is p s n room g x (meaning_at f d.name) y w (o ∙ ap (λ (v : Designator). aim_of (meaning_at f v.name)) q))
    turn_signed d y p nowhere b s n room g x q w o e = elim q [ ]
    turn_signed d y p (applying name position) b s n room g x q w o e = elim q [ ]
    turn_signed d y p (declaring count _ values) b s n room g x q w o e = elim q [ ]

    turn-phrase : (y : Phrase) (p : Place) (c : Context) (b : Ruling) (s n room : ℕ) (g : Open) (x : Ruling) (i j : ℕ) → is_event kinds (phrase y) i j → PhraseSuits y c → Opens c s n g
        → b ≡ x ⊕ pending c room → At p (context_after (phrase y) c) (rule_event f (phrase y) p b) (step (op_of (phrase y)) (token_of (phrase y)) (at p s n room g x))
    turn-phrase (aimed d) p c b s n room g x i j h q o e =
        judged (phrase (aimed d)) p c b s n room g x s n room (open_of (aim_of (meaning_at f d.name)) g.name g.position) (complete c room b x q e) refl join-right
        (aimed-is p s n room g x d i j h)
    turn-phrase (driven d) p c b s n room g x i j h q o e =
        judged (phrase (driven d)) p c b s n room g x s n room (open_of (aim_of (meaning_at f d.name)) g.name g.position) (complete c room b x q e) refl join-right
        (driven-is p s n room g x d i j h)
    turn-phrase (signed d y) p c b s n room g x i j h q o e = turn_signed d y p c b s n room g x q.0 q.1 o e
    turn-phrase (given d a) p (aiming z) b s n room g x i j h q o e =
        judged (phrase (given d a)) p (aiming z) b s n room g x s n room g (complete (aiming z) room b x tt e) o join-right
        (given_is p s n room g x (meaning_at f d.name) a i j h (o ∙ ap (λ (v : Designator). aim_of (meaning_at f v.name)) q))
    turn-phrase (joined d t) p (aiming z) b s n room g x i j h q o e =
        judged (phrase (joined d t)) p (aiming z) b s n room g x s n room g (complete (aiming z) room b x tt e) o join-right
        (joined_is p s n room g x (meaning_at f d.name) t i j h.0 h.2 (o ∙ ap (λ (v : Designator). aim_of (meaning_at f v.name)) q))
    turn-phrase (tested t y) p c b s n room g x i j h q o e =
        judged (phrase (tested t y)) p c b s n room g x s n room g (complete c room b x q e) tt join-right (tested-is p s n room g x y _ _ h.1)
    turn-phrase (limited d v a) p (aiming z) b s n room g x i j h q o e =
        judged (phrase (limited d v a)) p (aiming z) b s n room g x s n room g (complete (aiming z) room b x tt e) tt join-right (operand-is p s n room g x a _ _ h.1.2.1)
    turn-phrase (called t) p c b s n room g x i j h q o e =
        judged (phrase (called t)) p c b s n room g x s n room g (complete c room b x q e) tt join-right (call_step p s n room g x t)
    turn-phrase (applied t) p c b s n room g x i j h q o e =
        judged (phrase (applied t)) p c b s n room g x s n room (open_of g.target t 0) (complete c room b x q e) (refl, refl) join-right (applied-is p s n room g x t)
    turn-phrase (argued t y a) p (applying m k) b s n room g x i j h q o e =
        let u = o.0 ∙ q.0 in
        let v = o.1 ∙ q.1 in
        judged (phrase (argued t y a)) p (applying m k) b s n room g x s n room (open_of g.target g.name (g.position + 1)) (e ∙ join-right x)
        (u, ap (λ (l : ℕ). l + 1) v) join-right (argued-is p s n room g x a _ _ t y h.1.1 u v)
    turn-phrase (counted t y) p (applying m k) b s n room g x i j h q o e =
        judged (phrase (counted t y)) p (applying m k) b s n room g x s n room g (e ∙ join-right x) tt join-right (counted_is p s n room g x t y (o.1 ∙ q.1))
    turn-phrase (chosen t) p c b s n room g x i j h q o e =
        judged (phrase (chosen t)) p c b s n room g x s n room g (complete c room b x q e) tt join-right (chosen_is p s n room g x t)
    turn-phrase (given d a) p nowhere b s n room g x i j h q o e = elim q [ ]
    turn-phrase (given d a) p (applying m k) b s n room g x i j h q o e = elim q [ ]
    turn-phrase (given d a) p (declaring count _ values) b s n room g x i j h q o e = elim q [ ]
    turn-phrase (joined d t) p nowhere b s n room g x i j h q o e = elim q [ ]
    turn-phrase (joined d t) p (applying m k) b s n room g x i j h q o e = elim q [ ]
    turn-phrase (joined d t) p (declaring count _ values) b s n room g x i j h q o e = elim q [ ]
    turn-phrase (limited d v a) p nowhere b s n room g x i j h q o e = elim q [ ]
    turn-phrase (limited d v a) p (applying m k) b s n room g x i j h q o e = elim q [ ]
    turn-phrase (limited d v a) p (declaring count _ values) b s n room g x i j h q o e = elim q [ ]
    turn-phrase (argued t y a) p nowhere b s n room g x i j h q o e = elim q [ ]
    turn-phrase (argued t y a) p (aiming z) b s n room g x i j h q o e = elim q [ ]
    turn-phrase (argued t y a) p (declaring count _ values) b s n room g x i j h q o e = elim q [ ]
    turn-phrase (counted t y) p nowhere b s n room g x i j h q o e = elim q [ ]
    turn-phrase (counted t y) p (aiming z) b s n room g x i j h q o e = elim q [ ]
    turn-phrase (counted t y) p (declaring count _ values) b s n room g x i j h q o e = elim q [ ]

    -- ── along the tape ──

    turn : (e : Event) (p : Place) (c : Context) (b : Ruling) (j : Judging) → Stands kinds e p 0 → Suits e c → At p c b j
        → At (after e p) (context_after e c) (rule_event f e p b) (step (op_of e) (token_of e) j)
    turn e p c b j z q a = rw a.is (go e z q)
      where
        go : (e : Event) → Stands kinds e p 0 → Suits e c
            → At (after e p) (context_after e c) (rule_event f e p b) (step (op_of e) (token_of e) (at p a.width a.elements a.room a.standing a.judged))
        go (edge y) z q =
            judged (edge y) p c b a.width a.elements a.room a.standing a.judged a.width a.elements a.room a.standing
            (complete c a.room b a.judged q a.all) tt join-right
            (turn-edge y p a.width a.elements a.room a.standing a.judged z.fits _ _ z.is)
        go (route y) z q =
            judged (route y) p c b a.width a.elements a.room a.standing a.judged a.width a.elements a.room a.standing
            (complete c a.room b a.judged q a.all) tt join-right
            (turn-route y p a.width a.elements a.room a.standing a.judged z.fits)
        go (entry y) z q = turn-entry y p c b a.width a.elements a.room a.standing a.judged z.fits _ _ z.is q a.opens a.all
        go (phrase y) z q = turn-phrase y p c b a.width a.elements a.room a.standing a.judged _ _ z.is q a.opens a.all
        go (mark y) z q =
            judged (mark y) p c b a.width a.elements a.room a.standing a.judged a.width a.elements a.room a.standing
            (complete c a.room b a.judged q a.all) tt join-right
            (turn-mark y p a.width a.elements a.room a.standing a.judged)

-- ── programs ──

pub judged-program :
    (kinds : List ℕ) (f : Tables) (x : Statement) (i j : ℕ) → is_program kinds x i j → (b : Ruling)
    → (pass (judge_event f) (beginning b) (tape_statement x [])).broken ≡ b ⊕ rules_of f x
judged-program kinds f x i j q b =
    let (c, k, a) = follows-in (judge_event f) (rule_event f) (At f) (λ e p. Stands kinds e p 0) (turn f kinds) (events_of x) [] nowhere b (beginning b)
    (text-stands kinds _ _ _ _ (program-text kinds x i j q)) (program-coherent x)
    (record { width = 0; elements = 0; room = 0; standing = open_of Unfit 0 0; judged = b; is = refl; opens = tt; all = sym (join-right b) }) in
    ap (λ (l : List ℕ). (pass (judge_event f) (beginning b) l).broken) (tree-tape x)
    ∙ (ap (λ (y : Judging). y.broken) a.is ∙ (sym (complete f c a.room _ a.judged k a.all) ∙ rules-onto f (events_of x) [] b))
