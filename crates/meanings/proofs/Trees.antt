-- On the tape of a program the walk's tables are what the definition says, event by event. What stands at a fixed distance from an event's token does so by the
-- grammar; the numbers of a text have 32 bits; and a base stays in force, since its name means what was declared before it.
use mathlib.Core.Path.{◌≡◌, refl, ap, ap₂, sym, ◌∙◌}
use mathlib.Core.List.{List, [], ◌∷◌}
use mathlib.Core.Bool.{Bool, true, false, ◌&&◌}
use mathlib.Core.Option.{Option, none, some}
use Rattle.std.specs.Prelude as S
use Prim.Native.Nat.{ℕ, ◌+◌, ◌-◌, ◌≤◌, ◌<◌}
use native.Mathlib.Omega.{arith}
use lib.Dec.{eqb}
use lib.ListN.{get_or, length}
use lib.Seq.{get_or-set_same}
use Rattle.base.specs.Choose.{whether◌then◌else◌}
use Rattle.token.specs.Kinds as K
use Rattle.grammar.specs.Tree.{Designator, Operand, number, place, Sign, plain, abs, neg, neg_abs, Condition, compared, bare, Statement, Width, full, short, byte}
use Rattle.grammar.specs.Derives.{is_register, is_program}
use Rattle.grammar.specs.Pinned.{head_of}
use Rattle.grammar.proofs.Pinned.{pinned-operand}
use Rattle.grammar.specs.Events.{Edge, opened, closed, entered, left, Route, labelled, sent, Entry, named, celled, itemed, valued, based, Phrase, aimed, driven, signed, given, joined, tested, limited, called, applied, argued, counted, chosen, Mark, looped, otherwise, ended_if, ended_else, ended_while, ended_for, listed, ended_choice, ended_case, Event, edge, route, entry, phrase, mark, events_of}
use Rattle.grammar.specs.Places.{within, body, Place, after}
use Rattle.grammar.specs.Contexts.{Context, nowhere, aiming, applying, declaring, context_after, Aims, EntrySuits, PhraseSuits, Suits}
use Rattle.grammar.proofs.Contexts.{program-coherent}
use Rattle.grammar.specs.Texts.{InBlock, EdgeFits, is_event, Stands}
use Rattle.grammar.proofs.Texts.{program-text}
use Rattle.grammar.proofs.Order.{Earlier, Placed, text-placed}
use Rattle.tape.specs.Events as E
use Rattle.tape.specs.Numbers.{form_at}
use Rattle.tape.specs.Tape.{tape_statement, width_of}
use Rattle.tape.specs.Pass.{pass}
use Rattle.tape.specs.Written.{operand_shape, sign_code, condition_code, op_of, token_of}
use Rattle.tape.proofs.Numbers.{by_shape, by-operand, by_width}
use Rattle.tape.proofs.Written.{tree-tape, follows-in}
use Rattle.scopes.proofs.Early.{Early}
use Rattle.static_rules.specs.Functions.{is_written}
use Rattle.static_rules.specs.Meaning.{Meaning, nothing, register, cell, routine, function, Based, meaning_of, operand_meaning, register_of, argument_of, is_long, long_operand, is_product}
use Rattle.static_rules.specs.Meanings as D
use Rattle.static_rules.specs.Meanings.{Meant, write, write_text, call_writes, target_writes, open_base, add_cell, count_of, is_array, meaning_in, own_in, newest, base_in, mean_program}
use Rattle.static_rules.proofs.Heeds.{phrase-alike}
use Rattle.static_rules.proofs.Lengths.{event-long}
use Rattle.static_rules.proofs.Stays.{Stays, event-stays}
use Rattle.static_rules.proofs.Uses.{later-read}
use Rattle.tables.specs.Packed.{CELL, ARRAY, WIDTHS, low, packed, width_by, unpacked}
use Rattle.tables.proofs.Meanings.{low-is, packed-cell}
use Rattle.meanings.specs.Along.{target_of, write_target, write_lower, within_after, form_after, target_after, first_after, declared_after, is_product_at, write_product, written_after, Meaning-walk, mean_event, beginning}

-- the tables without the list of cells
abbrev pub tabled : Meant → Meant
tabled s = record { means = s.means; opens = s.opens; written = s.written; cells = []; bases = s.bases }

-- the procedures around the innermost
abbrev owners_in : Place → List ℕ
owners_in [] = []
owners_in (within b ∷ p) = owners_in p
owners_in (body n r ∷ p) = own_in p ∷ owners_in p

-- the width of cells, by its number
width_few : (w : Width) → width_of w < WIDTHS
width_few w = by_width (λ n. n < WIDTHS) (omega arith) (omega arith) (omega arith) (omega arith) w

width_is : (w : Width) → width_by (width_of w) ≡ w
width_is full = refl
width_is short = refl
width_is (byte false) = refl
width_is (byte true) = refl

module _ (kinds values found : List ℕ) where
  -- numbers have 32 bits
  abbrev pub Small : Type 0
  Small = (t : ℕ) → get_or kinds t 0 ≡ K.NUMBER → get_or values t 0 < 4294967296

  -- the bases in force around each open block
  abbrev outer_in : Meant → Place → List Based
  outer_in s [] = []
  outer_in s (within b ∷ p) = base_in found s p ∷ outer_in s p
  outer_in s (body n r ∷ p) = outer_in s p

  -- ── a base stays in force ──

  module _ (early : Early found) (i : ℕ) (s t : Meant) (stays : Stays i s t) where
    newest-stays : (ns : List ℕ) (p : Place) → Earlier kinds i (within (record { at = 0; names = []; bases = ns; labels = []; set = [] }) ∷ p) → base_in found t p ≡ base_in found s p
        → newest found t ns (base_in found t p) ≡ newest found s ns (base_in found s p)
    newest-stays [] p h e = e
    newest-stays (n ∷ ns) p h e =
        let l = h.1.0 in
        let d = early n in
        ap₂ (λ (m : Meaning) (k : ℕ). record { register = register_of m; segment = k }) (stays.of-means (get_or found n 0) (omega arith)) (stays.of-opens n l)

    base_stays : (p : Place) → Earlier kinds i p → base_in found t p ≡ base_in found s p
    base_stays [] h = refl
    base_stays (within b ∷ p) h = newest-stays b.bases p (tt, h.1, h.2) (base_stays p h.2)
    base_stays (body n r ∷ p) h = base_stays p h.2

    outer-stays : (p : Place) → Earlier kinds i p → outer_in t p ≡ outer_in s p
    outer-stays [] h = refl
    outer-stays (within b ∷ p) h = ap₂ (λ (x : Based) (xs : List Based). x ∷ xs) (base_stays p h.2) (outer-stays p h.2)
    outer-stays (body n r ∷ p) h = outer-stays p h.2

  -- ── the walk's state, by what stands open ──

  abbrev Formed : Option ℕ → Width → ℕ → Type 0
  Formed n w form = (t : ℕ) (b : Based) → unpacked t form b ≡ cell (record { name = t; base = b; width = w; elements = count_of values n; array = is_array n })

  abbrev Opens : Context → Meant → (form : ℕ) (target : S.Option ℕ) → (first : Bool) → Type 0
  Opens nowhere s form target first = Unit {0}
  Opens (aiming d) s form target first = target ≡ target_of (meaning_in found s d.name)
  Opens (applying n p) s form target first = first ≡ is_written (argument_of (meaning_in found s n) p)
  Opens (declaring n w ts) s form target first = Formed n w form

  -- behind a target no argument follows
  aims-still : (d : Designator) (c : Context) (s : Meant) (form : ℕ) (target : S.Option ℕ) (first : Bool) → Aims d c → Opens c s form target first → Opens c s form target false
  aims-still d (aiming x) s form target first q o = o
  aims-still d nowhere s form target first q o = elim q [ ]
  aims-still d (applying name position) s form target first q o = elim q [ ]
  aims-still d (declaring count _ _) s form target first q o = elim q [ ]

  -- own, owners: the innermost procedure and those around it; s: the tables by which the bases at p are told
  abbrev walk_from : (own : ℕ) (owners : List ℕ) → Place → Meant → (form : ℕ) (target : S.Option ℕ) → (first : Bool) → Meant → Meaning-walk
  walk_from own owners p s form target first t = record {
    within = record { own = own; owners = owners; base = base_in found s p; outer = outer_in s p };
    form = form;
    target = target;
    first = first;
    meant = tabled t;
  }

  abbrev walk : Place → Meant → (form : ℕ) (target : S.Option ℕ) → (first : Bool) → Meaning-walk
  walk p s form target first = walk_from (own_in p) (owners_in p) p s form target first s

  abbrev step : ℕ → ℕ → Meaning-walk → Meaning-walk
  step op t m = mean_event kinds values found op t m

  abbrev mean_at : Event → Place → Meant → Meant
  mean_at = D.mean_event kinds values found

  -- at a place, for a text of N tokens
  abbrev At : ℕ → Place → Context → Meant → Meaning-walk → Type 0
  At N p c s m = (form : ℕ) × (target : S.Option ℕ) × (first : Bool) × (m ≡ walk p s form target first) × Opens c s form target first × (length s.opens ≡ N)

  abbrev Next : Event → Place → Context → Meant → (form : ℕ) (target : S.Option ℕ) → (first : Bool) → Type 0
  Next e p c s form target first =
      (form' : ℕ) × (target' : S.Option ℕ) × (first' : Bool) × (step (op_of e) (token_of e) (walk p s form target first) ≡ walk (after e p) (mean_at e p s) form' target' first')
      × Opens (context_after e c) (mean_at e p s) form' target' first'

  -- the tables that an event leaves tell the same bases
  abbrev Settles : Place → Meant → Meant → Type 0
  Settles p s t = (base_in found t p ≡ base_in found s p) × (outer_in t p ≡ outer_in s p)

  settle : (own : ℕ) (owners : List ℕ) (p : Place) (s t : Meant) (form : ℕ) (target : S.Option ℕ) (x : Meaning-walk) → Settles p s t → x ≡ walk_from own owners p s form target false t
      → x ≡ walk_from own owners p t form target false t
  settle own owners p s t form target x g e =
      e ∙ ap₂ (λ (b : Based) (bs : List Based). record {
        within = record { own = own; owners = owners; base = b; outer = bs };
        form = form;
        target = target;
        first = false;
        meant = tabled t;
      }) (sym g.0) (sym g.1)

  -- ── edges and routes ──

  turn-edge : (x : Edge) (p : Place) (c : Context) (s : Meant) (form : ℕ) (target : S.Option ℕ) (first : Bool) → EdgeFits x p → Settles p s (mean_at (edge x) p s) → (i j : ℕ) → is_event kinds (edge x) i j
      → Next (edge x) p c s form target first
  unfolding D.mean_event mean_event within_after form_after target_after first_after declared_after written_after form_at write_text
  turn-edge (opened t ls) p c s form target first f g i j h = (form, target, false, refl, tt)
  turn-edge (closed t) (within b ∷ p) c s form target first f g i j h = (form, target, false, refl, tt)
  turn-edge (entered n r) (within b ∷ p) c s form target first f g i j h =
      let e : r ≡ n + 2 = omega (arith, h.1.0, h.1.2.1.0) in
      (form, target, false, settle n (own_in p ∷ owners_in p) (within b ∷ p) s (mean_at (edge (entered n r)) (within b ∷ p) s) form target _ g (rw e), tt)
  turn-edge (left n) (body k r ∷ p) c s form target first f g i j h = (form, target, false, settle (own_in p) (owners_in p) p s (mean_at (edge (left n)) (body k r ∷ p) s) form target _ g refl, tt)
  turn-edge (closed t) [] c s form target first f g i j h = elim f [ ]
  turn-edge (closed t) (body k r ∷ p) c s form target first f g i j h = elim f [ ]
  turn-edge (entered n r) [] c s form target first f g i j h = elim f [ ]
  turn-edge (entered n r) (body k return ∷ p) c s form target first f g i j h = elim f [ ]
  turn-edge (left n) [] c s form target first f g i j h = elim f [ ]
  turn-edge (left n) (within b ∷ p) c s form target first f g i j h = elim f [ ]

  turn-route : (x : Route) (p : Place) (c : Context) (s : Meant) (form : ℕ) (target : S.Option ℕ) (first : Bool) → Stands kinds (route x) p 0 → Next (route x) p c s form target first
  unfolding D.mean_event mean_event within_after form_after target_after first_after declared_after written_after form_at
  turn-route (labelled l) p c s form target first h = labels p h.fits
    where
      labels : (p : Place) → InBlock p → Next (route (labelled l)) p c s form target first
      labels (within b ∷ p) f = (form, target, false, refl, tt)
      labels [] f = elim f [ ]
      labels (body name return ∷ p) f = elim f [ ]
  turn-route (sent t n) p c s form target first h = (form, target, false, refl, tt)

  -- ── entries ──

  module _ (small : Small) where
    -- an array's count has 32 bits
    counted-bits : (n : ℕ) (w : Width) (i j : ℕ) → is_event kinds (entry (celled (some n) w)) i j → low (get_or values n 0) ≡ get_or values n 0
    counted-bits n w i j h = low-is _ (small n (rw h.1.1.0 h.1.1.1))

    turn-entry : (d : Entry) (p : Place) (c : Context) (s : Meant) (form : ℕ) (target : S.Option ℕ) (first : Bool) → InBlock p → Settles p s (mean_at (entry d) p s) → (i j : ℕ) → is_event kinds (entry d) i j
        → j ≤ length s.opens
        → EntrySuits d c → Opens c s form target first → Next (entry d) p c s form target first
    unfolding D.mean_event mean_event within_after form_after target_after first_after declared_after written_after form_at open_base write add_cell low is_register
    turn-entry (named r) (within b ∷ p) c s form target first f g i j h l q o =
        let e : r.number ≡ r.name + 2 = omega (arith, h.0, h.2.1.0) in
        let n : get_or kinds r.number 0 ≡ K.NUMBER = rw h.2.1.0 h.2.1.1 in
        (form, target, false, settle (own_in p) (owners_in p) (within b ∷ p) s (mean_at (entry (named r)) (within b ∷ p) s) form target _ g (rw (← e, low-is _ (small r.number n))), tt)
    turn-entry (celled none w) (within b ∷ p) c s form target first f g i j h l q o = (
      packed CELL (width_of w) 1,
      target,
      false,
      by_width (λ n. step (E.SINGLE-FULL + n) 0 (walk (within b ∷ p) s form target first) ≡ walk (within b ∷ p) s (packed CELL n 1) target false) refl refl refl refl w,
      λ t u. packed-cell t 1 CELL (width_of w) u (omega arith, width_few w) refl
          ∙ ap (λ (x : Width). cell (record { name = t; base = u; width = x; elements = 1; array = false })) (width_is w),
    )
    turn-entry (celled (some n) w) (within b ∷ p) c s form target first f g i j h l q o = (
      packed ARRAY (width_of w) (get_or values n 0),
      target,
      false,
      by_width (λ k. step (E.ARRAY-FULL + k) n (walk (within b ∷ p) s form target first) ≡ walk (within b ∷ p) s (packed ARRAY k (get_or values n 0)) target false) refl refl refl refl w,
      λ t u. packed-cell t (get_or values n 0) ARRAY (width_of w) u (omega arith, width_few w) refl
          ∙ ap₂ (λ (x : Width) (v : ℕ). cell (record { name = t; base = u; width = x; elements = v; array = true })) (width_is w) (counted-bits n w i j h),
    )
    turn-entry (itemed n w x) (within b ∷ p) (declaring m v ts) s form target first f g i j h l q o = (
      form,
      target,
      false,
      settle (own_in p) (owners_in p) (within b ∷ p) s (mean_at (entry (itemed n w x)) (within b ∷ p) s) form target _ g (rw (o x.name (base_in found s (within b ∷ p)), q.0, q.1)),
      λ t u. rw (← q.0, ← q.1) (o t u),
    )
    turn-entry (valued t) (within b ∷ p) (declaring m v (u ∷ ts)) s form target first f g i j h l q o = (form, target, false, refl, o)
    turn-entry (based n) (within b ∷ p) c s form target first f g i j h l q o =
        let e = get_or-set_same s.opens n (2 + s.bases) 0 (omega arith) in
        (form, target, false, rw (e, g.1), tt)
    turn-entry (named r) [] c s form target first f g i j h l q o = elim f [ ]
    turn-entry (named r) (body name return ∷ p) c s form target first f g i j h l q o = elim f [ ]
    turn-entry (celled none w) [] c s form target first f g i j h l q o = elim f [ ]
    turn-entry (celled none w) (body name return ∷ p) c s form target first f g i j h l q o = elim f [ ]
    turn-entry (celled (some n) w) [] c s form target first f g i j h l q o = elim f [ ]
    turn-entry (celled (some n) w) (body name return ∷ p) c s form target first f g i j h l q o = elim f [ ]
    turn-entry (itemed n w x) [] c s form target first f g i j h l q o = elim f [ ]
    turn-entry (itemed n w x) (within b ∷ p) nowhere s form target first f g i j h l q o = elim q [ ]
    turn-entry (itemed n w x) (within b ∷ p) (aiming _) s form target first f g i j h l q o = elim q [ ]
    turn-entry (itemed n w x) (within b ∷ p) (applying name position) s form target first f g i j h l q o = elim q [ ]
    turn-entry (itemed n w x) (body name return ∷ p) c s form target first f g i j h l q o = elim f [ ]
    turn-entry (valued t) [] c s form target first f g i j h l q o = elim f [ ]
    turn-entry (valued t) (within b ∷ p) nowhere s form target first f g i j h l q o = elim q [ ]
    turn-entry (valued t) (within b ∷ p) (aiming _) s form target first f g i j h l q o = elim q [ ]
    turn-entry (valued t) (within b ∷ p) (applying name position) s form target first f g i j h l q o = elim q [ ]
    turn-entry (valued t) (within b ∷ p) (declaring m v []) s form target first f g i j h l q o = elim q [ ]
    turn-entry (valued t) (body name return ∷ p) c s form target first f g i j h l q o = elim f [ ]
    turn-entry (based n) [] c s form target first f g i j h l q o = elim f [ ]
    turn-entry (based n) (body name return ∷ p) c s form target first f g i j h l q o = elim f [ ]

  -- ── phrases ──

  target-same : (m : Meaning) (own : ℕ) (s : Meant) → write_target own (target_of m) (tabled s) ≡ tabled (target_writes m (λ r. r) own s)
  unfolding write_target target_writes write
  target-same nothing own s = refl
  target-same (register r) own s = refl
  target-same (cell c) own s = refl
  target-same (routine r) own s = refl
  target-same (function k) own s = refl

  argument-same : (b : Bool) (m : Meaning) (own : ℕ) (s : Meant) → write_target own (whether b then target_of m else S.None) (tabled s) ≡ tabled (whether b then target_writes m (λ r. r) own s else s)
  unfolding write_target
  argument-same false m own s = refl
  argument-same true m own s = target-same m own s

  lower-same : (t : Bool) (m : Meaning) (own : ℕ) (s : Meant) → (whether t then write_lower own (target_of m) (tabled s) else tabled s) ≡ tabled (whether t then target_writes m (λ r. r - 1) own s else s)
  unfolding write_lower target_writes write
  lower-same false m own s = refl
  lower-same true nothing own s = refl
  lower-same true (register r) own s = refl
  lower-same true (cell c) own s = refl
  lower-same true (routine r) own s = refl
  lower-same true (function k) own s = refl

  call_same : (m : Meaning) (own p : ℕ) (s : Meant) → call_writes m own p (tabled s) ≡ tabled (call_writes m own p s)
  unfolding call_writes write_text write
  call_same nothing own p s = refl
  call_same (register r) own p s = refl
  call_same (cell c) own p s = refl
  call_same (routine r) own p s = refl
  call_same (function k) own p s = refl

  -- the walk with other tables
  abbrev tell : Place → Meant → (form : ℕ) (target : S.Option ℕ) → Meant → Meaning-walk
  tell p s form target x = record {
    within = record { own = own_in p; owners = owners_in p; base = base_in found s p; outer = outer_in s p };
    form = form;
    target = target;
    first = false;
    meant = x;
  }

  module _ (p : Place) (s : Meant) (form : ℕ) (target : S.Option ℕ) (first : Bool) where
    abbrev here : Meaning-walk
    here = walk p s form target first

    abbrev there : Meaning-walk
    there = walk p s form target false

    sign-is : (g : Sign) → step ((sign_code g).family + (sign_code g).form) (sign_code g).token here ≡ there
    unfolding mean_event within_after form_after target_after first_after declared_after written_after form_at
    sign-is plain = refl
    sign-is (abs t) = refl
    sign-is (neg t) = refl
    sign-is (neg_abs t) = refl

    condition-is : (c : Condition) → step ((condition_code c).family + (condition_code c).form) (condition_code c).token here ≡ there
    unfolding mean_event within_after form_after target_after first_after declared_after written_after form_at
    condition-is (compared n r a) = by-operand (λ n. step (E.COMPARED + n) (head_of a) here ≡ there) refl refl refl refl refl a
    condition-is (bare r) = refl

    -- a term writes the lower register where it is a product
    term_is : (o : ℕ) (a : Operand) → head_of a - 1 ≡ o
        → step (E.TERM + operand_shape a) (head_of a) here
        ≡ tell p s form target (whether eqb (get_or kinds o 0) K.TIMES && long_operand found s.means a then write_lower (own_in p) target (tabled s) else tabled s)
    unfolding mean_event within_after form_after target_after first_after declared_after written_after form_at write_product is_product_at
    term_is o (number t) e = rw e
    term_is o (place d) e =
        rw (← e)
        (by_shape (λ n. step (E.TERM + n) d.name here
        ≡ tell p s form target (whether eqb (get_or kinds (d.name - 1) 0) K.TIMES && is_long (meaning_of found s.means d.name) then write_lower (own_in p) target (tabled s) else tabled s))
        refl refl refl refl d.subscript d.index)

    -- an argument is written where it is to be
    argument_is : (a : Operand)
        → step (E.ARGUED + operand_shape a) (head_of a) here
        ≡ tell p s form (whether first then target_of (operand_meaning found s.means a) else S.None) (write_target (own_in p) (whether first then target_of (operand_meaning found s.means a) else S.None) (tabled s))
    unfolding mean_event within_after form_after target_after first_after declared_after written_after form_at
    argument_is a = go first a
      where
        go : (first : Bool) (a : Operand)
            → step (E.ARGUED + operand_shape a) (head_of a) (walk p s form target first)
            ≡ tell p s form (whether first then target_of (operand_meaning found s.means a) else S.None) (write_target (own_in p) (whether first then target_of (operand_meaning found s.means a) else S.None) (tabled s))
        go false a = by-operand (λ n. step (E.ARGUED + n) (head_of a) (walk p s form target false) ≡ tell p s form S.None (write_target (own_in p) S.None (tabled s))) refl refl refl refl refl a
        go true (number t) = refl
        go true (place d) =
            by_shape (λ n. step (E.ARGUED + n) d.name (walk p s form target true)
            ≡ tell p s form (target_of (meaning_in found s d.name)) (write_target (own_in p) (target_of (meaning_in found s d.name)) (tabled s))) refl refl refl refl d.subscript d.index

  -- what a target leaves
  abbrev aimed_at : ℕ → Place → Meant → ℕ → Meaning-walk
  aimed_at n p s form = tell p s form (target_of (meaning_in found s n)) (write_target (own_in p) (target_of (meaning_in found s n)) (tabled s))

  aim-is : (n : ℕ) (p : Place) (s t : Meant) (form : ℕ) (x : Meaning-walk) → t ≡ target_writes (meaning_in found s n) (λ r. r) (own_in p) s → Settles p s t → t.means ≡ s.means
      → x ≡ aimed_at n p s form → (form' : ℕ) × (target' : S.Option ℕ) × (first' : Bool) × (x ≡ walk p t form' target' first') × (target' ≡ target_of (meaning_in found t n))
  aim-is n p s t form x u g k e =
      let m = meaning_in found s n in (
        form,
        target_of m,
        false,
        settle (own_in p) (owners_in p) p s t form (target_of m) x g (e ∙ ap (tell p s form (target_of m)) (target-same m (own_in p) s ∙ ap tabled (sym u))),
        ap (λ (ms : List Meaning). target_of (meaning_of found ms n)) (sym k),
      )

  turn-phrase : (f : Phrase) (p : Place) (c : Context) (s : Meant) (form : ℕ) (target : S.Option ℕ) (first : Bool) → Settles p s (mean_at (phrase f) p s) → (i j : ℕ) → is_event kinds (phrase f) i j → PhraseSuits f c
      → Opens c s form target first → Next (phrase f) p c s form target first
  unfolding D.mean_event mean_event within_after form_after target_after first_after declared_after written_after form_at
  turn-phrase (aimed d) p c s form target first g i j h q o =
      aim-is d.name p s _ form _ refl g (phrase-alike kinds values found (aimed d) p s).of-means
      (by_shape (λ n. step (E.TARGET + n) d.name (walk p s form target first) ≡ aimed_at d.name p s form) refl refl refl refl d.subscript d.index)
  turn-phrase (driven d) p c s form target first g i j h q o =
      aim-is d.name p s _ form _ refl g (phrase-alike kinds values found (driven d) p s).of-means
      (by_shape (λ n. step (E.CONTROL + n) d.name (walk p s form target first) ≡ aimed_at d.name p s form) refl refl refl refl d.subscript d.index)
  turn-phrase (signed d x) p c s form target first g i j h q o = (form, target, false, sign-is p s form target first x, aims-still d c s form target first q.0 o)
  turn-phrase (given d a) p c s form target first g i j h q o = (
    form,
    target,
    false,
    by-operand (λ n. step (E.FIRST + n) (head_of a) (walk p s form target first) ≡ walk p s form target false) refl refl refl refl refl a,
    aims-still d c s form target first q o,
  )
  turn-phrase (joined d t) p (aiming x) s form target first g i j h q o =
      let m = meaning_in found s d.name in
      let b = is_product kinds found s.means t in
      let e : target ≡ target_of m = o ∙ ap (λ (y : Designator). target_of (meaning_in found s y.name)) q in
      let k = (phrase-alike kinds values found (joined d t) p s).of-means in (
        form,
        target,
        false,
        settle (own_in p) (owners_in p) p s (mean_at (phrase (joined d t)) p s) form target _ g
            (term_is p s form target first t.operator t.operand (omega (arith, h.0, (pinned-operand kinds t.operand _ _ h.2).0))
            ∙ ap (tell p s form target) (rw e (lower-same b m (own_in p) s))),
        o ∙ ap (λ (ms : List Meaning). target_of (meaning_of found ms x.name)) (sym k),
      )
  turn-phrase (tested t x) p c s form target first g i j h q o = (form, target, false, condition-is p s form target first x, tt)
  turn-phrase (limited d v a) p c s form target first g i j h q o = (
    form,
    target,
    false,
    by-operand (λ n. step (E.LIMIT + n) (head_of a) (walk p s form target first) ≡ walk p s form target false) refl refl refl refl refl a,
    tt,
  )
  turn-phrase (called n) p c s form target first g i j h q o = (
    form,
    target,
    false,
    settle (own_in p) (owners_in p) p s (mean_at (phrase (called n)) p s) form target _ g (ap (tell p s form target) (call_same (meaning_in found s n) (own_in p) (get_or found n 0) s)),
    tt,
  )
  turn-phrase (applied n) p c s form target first g i j h q o = (form, target, is_written (argument_of (meaning_in found s n) 0), refl, refl)
  turn-phrase (argued n z a) p (applying m r) s form target first g i j h q o =
      let x = operand_meaning found s.means a in
      let y = whether first then target_of x else S.None in
      let e : first ≡ is_written (argument_of (meaning_in found s n) z) = o ∙ ap₂ (λ (k l : ℕ). is_written (argument_of (meaning_in found s k) l)) q.0 q.1 in
      let t = mean_at (phrase (argued n z a)) p s in (
        form,
        y,
        false,
        settle (own_in p) (owners_in p) p s t form y _ g (argument_is p s form target first a ∙ ap (tell p s form y)
            (argument-same first x (own_in p) s ∙ ap (λ (b : Bool). tabled (whether b then target_writes x (λ r. r) (own_in p) s else s)) e)),
        sym (later-read (meaning_in found t n) z),
      )
  turn-phrase (counted n k) p c s form target first g i j h q o = (form, target, false, refl, tt)
  turn-phrase (chosen n) p c s form target first g i j h q o =
      let (form', target', first', e, u) = aim-is n p s _ form _ refl g (phrase-alike kinds values found (chosen n) p s).of-means refl in
      (form', target', first', e, tt)
  turn-phrase (joined d t) p nowhere s form target first g i j h q o = elim q [ ]
  turn-phrase (joined d t) p (applying m r) s form target first g i j h q o = elim q [ ]
  turn-phrase (joined d t) p (declaring count _ _) s form target first g i j h q o = elim q [ ]
  turn-phrase (argued n z a) p nowhere s form target first g i j h q o = elim q [ ]
  turn-phrase (argued n z a) p (aiming x) s form target first g i j h q o = elim q [ ]
  turn-phrase (argued n z a) p (declaring count _ _) s form target first g i j h q o = elim q [ ]

  -- ── marks ──

  unheeded : (k : Mark) (p : Place) (s : Meant) (form : ℕ) (target : S.Option ℕ) (first : Bool) → step (op_of (mark k)) (token_of (mark k)) (walk p s form target first) ≡ walk p s form target false
  unfolding mean_event within_after form_after target_after first_after declared_after written_after form_at
  unheeded (looped t) p s form target first = refl
  unheeded (otherwise t) p s form target first = refl
  unheeded (ended_if t) p s form target first = refl
  unheeded (ended_else t) p s form target first = refl
  unheeded (ended_while t) p s form target first = refl
  unheeded (ended_for v) p s form target first = refl
  unheeded (listed k) p s form target first = refl
  unheeded (ended_choice t) p s form target first = refl
  unheeded (ended_case t) p s form target first = refl

  -- ── along the tape ──

  module _ (small : Small) (early : Early found) (N : ℕ) where
    next : (e : Event) (p : Place) (c : Context) (s : Meant) (form : ℕ) (target : S.Option ℕ) (first : Bool) → Placed kinds N e p → N ≡ length s.opens → Suits e c → Opens c s form target first
        → Next e p c s form target first
    unfolding D.mean_event
    next e p c s form target first x l q o = go e x q o (settles e x)
      where
        settles : (e : Event) → (x : Placed kinds N e p) → Settles p s (mean_at e p s)
        settles e x =
            let z : Stands kinds e p x.stands.from = record {
              fits = x.stands.fits;
              from = x.stands.from;
              to = x.stands.to;
              later = omega arith;
              rises = x.stands.rises;
              is = x.stands.is;
            } in
            let k = event-stays kinds values found e p x.stands.from s z in
            (base_stays early x.stands.from s (mean_at e p s) k p x.earlier, outer-stays early x.stands.from s (mean_at e p s) k p x.earlier)

        go : (e : Event) → (x : Placed kinds N e p) → Suits e c → Opens c s form target first → Settles p s (mean_at e p s) → Next e p c s form target first
        go (edge y) x q o g = turn-edge y p c s form target first x.stands.fits g _ _ x.stands.is
        go (route y) x q o g = turn-route y p c s form target first x.stands
        go (entry y) x q o g = turn-entry small y p c s form target first x.stands.fits g _ _ x.stands.is (omega (arith, x.inside)) q o
        go (phrase y) x q o g = turn-phrase y p c s form target first g _ _ x.stands.is q o
        go (mark y) x q o g = (form, target, false, unheeded y p s form target first, tt)

    turn : (e : Event) (p : Place) (c : Context) (s : Meant) (m : Meaning-walk) → Placed kinds N e p → Suits e c → At N p c s m
        → At N (after e p) (context_after e c) (mean_at e p s) (step (op_of e) (token_of e) m)
    turn e p c s m x q (form, target, first, h, o, l) =
        let (form', target', first', k, u) = next e p c s form target first x (sym l) q o in
        (form', target', first', ap (step (op_of e) (token_of e)) h ∙ k, u, (event-long kinds values found e p s).of-opens ∙ l)

-- ── programs ──

pub meant-program :
    (kinds values found : List ℕ) → Small kinds values found → Early found → (x : Statement) (i j : ℕ) → is_program kinds x i j → (s : Meant) → j ≤ length s.opens
    → (pass (mean_event kinds values found) (beginning (tabled s)) (tape_statement x [])).meant ≡ tabled (mean_program kinds values found x s)
meant-program kinds values found small early x i j h s l =
    let N = length s.opens in
    let (c, k, (form, target, first, e, o, w)) = follows-in (mean_event kinds values found) (D.mean_event kinds values found) (At kinds values found N) (Placed kinds N)
    (turn kinds values found small early N) (events_of x) [] nowhere
    s (beginning (tabled s)) (text-placed kinds N (events_of x) [] i j l (program-text kinds x i j h) tt) (program-coherent x) (0, S.None, false, refl, tt, refl) in
    ap (λ (l : List ℕ). (pass (mean_event kinds values found) (beginning (tabled s)) l).meant) (tree-tape x) ∙ ap (λ (m : Meaning-walk). m.meant) e
