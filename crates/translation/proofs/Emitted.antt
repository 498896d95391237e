-- Where no rule is broken, what is made of a text's statements is ready: registers are 0 to 15, elements lie in their cells, shifts are below 64.
use mathlib.Core.Path.{◌≡◌, refl}
use mathlib.Core.List.{List, [], ◌∷◌}
use mathlib.Core.Bool.{Bool, true, false, ◌&&◌}
use mathlib.Core.Option.{Option, none, some}
use Prim.Native.Nat.{ℕ, zero, suc, ◌+◌, ◌*◌, ◌-◌, ◌<◌, ◌≤◌}
use native.Mathlib.Omega.{arith}
use lib.Dec.{eqb, leb}
use lib.ListN.{length, get_or}
use borrow.Author.Tests.{eqb-true}
use Rattle.base.specs.Choose.{whether◌then◌else◌}
use Rattle.base.specs.Lists.{All, member}
use Rattle.base.proofs.Lists.{all_both}
use Rattle.base.proofs.Tests.{both}
use Rattle.token.specs.Kinds as K
use Rattle.grammar.specs.Tree as T
use Rattle.grammar.specs.Tree.{Designator, Operand, number, place, Sign, plain, abs, neg, neg_abs, Term, Assignment, Condition, compared, bare, Width, full, short, byte, Statement, Body, Items, Choices}
use Rattle.grammar.specs.Events.{Event, edge, phrase, mark, closed, left, given, limited, ended_if, otherwise, ended_else, ended_while, ended_for, ended_choice, ended_case, each, events_value, events_item, events_register, events_declaration, events_sign, events_term, events_chain, events_arguments, events_statement, events_body, events_items, events_choices, events_of}
use Rattle.grammar.specs.Places.{Place, Along}
use Rattle.scopes.specs.declared.Refusal.TheVariants.{Misfit, OutOfBounds}
use Rattle.scopes.specs.Broken.{unbroken, ◌⊕◌, rule}
use Rattle.scopes.proofs.Joins.{some-none, quiet-left, quiet-right, rule-holds}
use Rattle.static_rules.specs.Functions as F
use Rattle.static_rules.specs.Functions.{Argument, written_register, read_register, byte_number, indexed_cell, plain_cell, surplus, Form, Function, function_table, arity, argument_at}
use Rattle.static_rules.specs.Meaning.{Meaning, nothing, register, cell, routine, function, Cell, element_size, register_of, function_of, long_operand}
use Rattle.static_rules.specs.Tables.{Tables, kind_at, value_at, meaning_at}
use Rattle.static_rules.specs.Rules as R
use Rattle.static_rules.specs.Rules.{shifts, full_only, inside}
use Rattle.static_rules.specs.Kinds.{kept_in}
use Rattle.static_rules.proofs.Elements.{inside_is, in-range}
use Rattle.static_rules.proofs.Small.{Small, register-small, meaning-small}
use Rattle.static_rules.proofs.Unbroken.{Unbroken}
use Rattle.static_rules.proofs.Uses.{by-meaning}
use Rattle.static_rules.proofs.Bases.{base-segment}
use Rattle.translation.specs.Instructions.{Datum, Instruction, row_of, load_row, compare_row, times_row, store_row, column, shift_code}
use Rattle.translation.specs.Core.{Use, held, stored, absent, apply, signed, load, function_with, function_on, is_token, exit_mask, return_of, subscript_of, index_of, use_by, use_of, shift_by, product_target, term_of, chain_of, to_register, source_of, number_of, assign_by, assignment_of, compare_with, test_of, mask_of, control_of, function_code, core_statement, core_body, core_items, core_choices}
use Rattle.translation.specs.Layout.{Layout, segment_limit, offset_of}
use Rattle.translation.proofs.Ready.{Ready, ReadyDatum, ReadyCore, ReadyArms, opcode-small, shift_small, mask-small}

module _ (f : Tables) (l : Layout) (n : ℕ) (small : All Small f.means)
    (within : (t : ℕ) (c : Cell) → meaning_at f t ≡ cell c → (v : ℕ) → v + element_size c.width ≤ element_size c.width * c.elements → offset_of l.placed c.name + v < segment_limit) where
  abbrev AllReady : List Instruction → Type 0
  AllReady is = All (Ready l n) is

  small_at : (t : ℕ) → Small (meaning_at f t)
  small_at t = meaning-small f.found f.means t small

  register-at : (t : ℕ) → register_of (meaning_at f t) < 16
  register-at t = register-small (meaning_at f t) (small_at t)

  -- ── operands ──

  abbrev ReadyUse : Use → Type 0
  ReadyUse (held r) = r < 16
  ReadyUse (stored w a) = ReadyDatum l a
  ReadyUse absent = Unit {0}

  index-ready : (x : Option ℕ) → index_of f x < 16
  index-ready none = omega arith
  index-ready (some t) = register-at t

  first_fits : (w : Width) (e : ℕ) → 1 ≤ e → 0 + element_size w ≤ element_size w * e
  first_fits full e h = omega arith
  first_fits short e h = omega arith
  first_fits (byte c) e h = omega arith

  subscript-fits : (c : Cell) (s : Option ℕ) → 1 ≤ c.elements → R.subscript_rules f c s ≡ unbroken → subscript_of f s + element_size c.width ≤ element_size c.width * c.elements
  unfolding R.subscript_rules
  subscript-fits c none h q = first_fits c.width c.elements h
  subscript-fits c (some t) h q = (inside_is c (value_at f t) (rule-holds (inside c (value_at f t)) OutOfBounds t q)).1

  place-ready : (m : Meaning) (d : Designator) → meaning_at f d.name ≡ m → Small m → R.place_by f m d ≡ unbroken → ReadyUse (use_by f m d)
  place-ready nothing d e h q = tt
  place-ready (register r) d e h q = h
  place-ready (cell c) d e h q =
      let s = quiet-left (R.subscript_rules f c d.subscript) (R.index_rules f d.index) (quiet-right _ (R.subscript_rules f c d.subscript ⊕ R.index_rules f d.index) q) in
      (h.0, index-ready d.index, within d.name c e (subscript_of f d.subscript) (subscript-fits c d.subscript h.1 s))
  place-ready (routine r) d e h q = tt
  place-ready (function k) d e h q = tt

  designator-ready : (d : Designator) → R.place_rules f d ≡ unbroken → ReadyUse (use_of f (place d))
  unfolding use_of R.place_rules
  designator-ready d q = place-ready (meaning_at f d.name) d refl (small_at d.name) q

  use-ready : (a : Operand) → R.operand_rules f a ≡ unbroken → ReadyUse (use_of f a)
  unfolding use_of R.operand_rules
  use-ready (number t) q = tt
  use-ready (place d) q = designator-ready d (quiet-left (R.place_rules f d) (R.no_byte f d) q)

  apply-ready : (row r : ℕ) (u : Use) → r < 16 → ReadyUse u → AllReady (apply row r u)
  apply-ready row r (held s) h k = ((opcode-small row 0, h, k), tt)
  apply-ready row r (stored w a) h k = ((opcode-small row (column w), h, k), tt)
  apply-ready row r absent h k = tt

  signed-ready : (op r : ℕ) (u : Use) → op < 256 → r < 16 → ReadyUse u → AllReady (signed op r u)
  signed-ready op r (held s) o h k = ((o, h, k), tt)
  signed-ready op r (stored w a) o h k = ((opcode-small load_row (column w), h, k), ((o, h, h), tt))
  signed-ready op r absent o h k = tt

  load-ready : (s : Sign) (r : ℕ) (u : Use) → r < 16 → ReadyUse u → AllReady (load s r u)
  load-ready plain r u h k = apply-ready load_row r u h k
  load-ready (abs t) r u h k = signed-ready 0x10 r u (omega arith) h k
  load-ready (neg t) r u h k = signed-ready 0x13 r u (omega arith) h k
  load-ready (neg_abs t) r u h k = signed-ready 0x11 r u (omega arith) h k

  -- ── chains ──

  shift-ready : (op r : ℕ) (a : Operand) → op < 256 → r < 16 → R.shift_rules f a ≡ unbroken → AllReady (shift_by f op r a)
  unfolding shift_by R.shift_rules
  shift-ready op r (number t) o h q =
      let e = (in-range 0 63 (value_at f t) (rule-holds (R.in_range 0 63 (value_at f t)) OutOfBounds t q)).1 in
      ((o, h, omega arith, omega arith), tt)
  shift-ready op r (place d) o h q = ((o, h, register-at d.name, omega arith), tt)

  target-ready : (b : Bool) (r : ℕ) → r < 16 → (whether b then (r - 1) else r) < 16
  target-ready true r h = omega arith
  target-ready false r h = h

  term-ready : (kept : List ℕ) (r : ℕ) (t : Term) → r < 16 → R.term_rules f kept r t ≡ unbroken → AllReady (term_of f r t)
  unfolding term_of R.term_rules
  term-ready kept r t h q = go (member k shifts) (eqb k K.TIMES) (member k full_only) q
    where
      k : ℕ
      k = kind_at f t.operator

      a : Operand
      a = t.operand

      go : (x y z : Bool)
          → (whether x then R.shift_rules f a else whether y then R.product_rules f kept r t ⊕ R.operand_rules f a else whether z then R.operand_rules f a ⊕ R.no_short f a else R.operand_rules f a) ≡ unbroken
          → AllReady (whether x then shift_by f (shift_code k) r a else whether y then apply times_row (product_target f r a) (use_of f a) else apply (row_of k) r (use_of f a))
      go true y z q = shift-ready (shift_code k) r a (shift_small k) h q
      go false true z q = apply-ready times_row (product_target f r a) (use_of f a) (target-ready (long_operand f.found f.means a) r h) (use-ready a (quiet-right _ _ q))
      go false false true q = apply-ready (row_of k) r (use_of f a) h (use-ready a (quiet-left _ _ q))
      go false false false q = apply-ready (row_of k) r (use_of f a) h (use-ready a q)

  -- each term of a chain, with the registers that are protected there
  abbrev Terms : Meaning → List Term → Type 0
  Terms m ts = All (λ (t : Term). (kept : List ℕ) × (R.term_by f m kept t ≡ unbroken)) ts

  chain-ready : (r : ℕ) (ts : List Term) → r < 16 → Terms (register r) ts → AllReady (chain_of f r ts)
  unfolding chain_of
  chain-ready r [] h q = tt
  chain-ready r (t ∷ ts) h ((kept, q), qs) = all_both (Ready l n) (term_of f r t) (chain_of f r ts) (term-ready kept r t h q) (chain-ready r ts h qs)

  -- ── assignments and conditions ──

  register-ready : (r : ℕ) (a : Assignment) → r < 16 → R.operand_rules f a.first ≡ unbroken → Terms (register r) a.rest → AllReady (to_register f r a)
  unfolding to_register
  register-ready r a h q qs =
      all_both (Ready l n) (load a.sign r (use_of f a.first)) (chain_of f r a.rest) (load-ready a.sign r (use_of f a.first) h (use-ready a.first q)) (chain-ready r a.rest h qs)

  source-ready : (a : Operand) → source_of f a < 16
  source-ready (number t) = omega arith
  source-ready (place d) = register-at d.name

  -- by what the target means: its place, the first operand and the terms fit
  assign-ready : (m : Meaning) (a : Assignment) → Small m → R.place_rules f a.target ≡ unbroken → R.first_by f m a.first ≡ unbroken → Terms m a.rest → AllReady (assign_by f m a)
  assign-ready nothing a h q u v = tt
  assign-ready (register r) a h q u v = register-ready r a h u v
  assign-ready (cell c) a h q u v = apply-ready store_row (source_of f a.first) (use_of f (place a.target)) (source-ready a.first) (designator-ready a.target q)
  assign-ready (routine r) a h q u v = tt
  assign-ready (function k) a h q u v = tt

  compare-ready : (r : ℕ) (a : Operand) → r < 16 → R.operand_rules f a ≡ unbroken → AllReady (compare_with f r a)
  unfolding compare_with
  compare-ready r a h q = apply-ready compare_row r (use_of f a) h (use-ready a q)

  test-ready : (c : Condition) → R.condition_rules f c ≡ unbroken → AllReady (test_of f c) × (mask_of f c < 16)
  unfolding test_of R.condition_rules
  test-ready (compared m k a) q = (compare-ready (register_of (meaning_at f m)) a (register-at m) (quiet-right _ _ q), mask-small (kind_at f k))
  test-ready (bare k) q = (tt, mask-small (kind_at f k))

  control-ready : (m : Meaning) (a : Assignment) (b : Bool) (t : ℕ) → Small m → rule (R.is_register m && b) Misfit t ≡ unbroken → R.first_by f m a.first ≡ unbroken → Terms m a.rest
      → AllReady (to_register f (register_of m) a)
  unfolding rule
  control-ready nothing a b t h q u v = absurd (some-none q)
  control-ready (register r) a b t h q u v = register-ready r a h u v
  control-ready (cell c) a b t h q u v = absurd (some-none q)
  control-ready (routine r) a b t h q u v = absurd (some-none q)
  control-ready (function k) a b t h q u v = absurd (some-none q)

  exit-ready : (step : ℕ) → exit_mask step < 16
  exit-ready step = go (leb 2147483648 step)
    where
      go : (b : Bool) → (whether b then 4 else 2) < 16
      go true = omega arith
      go false = omega arith

  return-ready : (m : Meaning) → Small m → return_of m < 16
  return-ready nothing h = omega arith
  return-ready (register r) h = omega arith
  return-ready (cell c) h = omega arith
  return-ready (routine r) h = h
  return-ready (function k) h = omega arith

  -- ── uses of functions ──

  -- an argument that fits: what it is has room, and so has the number that it may be
  abbrev Argued : Operand → Type 0
  Argued a = ReadyUse (use_of f a) × (number_of f a < 256)

  held-ready : (m : Meaning) (d : Designator) (b : Bool) (t : ℕ) → Small m → rule (R.is_register m && b) Misfit t ≡ unbroken → ReadyUse (use_by f m d)
  unfolding rule
  held-ready nothing d b t h q = tt
  held-ready (register r) d b t h q = h
  held-ready (cell c) d b t h q = absurd (some-none q)
  held-ready (routine r) d b t h q = tt
  held-ready (function k) d b t h q = tt

  only-ready : (a : Operand) → R.only_register f a ≡ unbroken → Argued a
  unfolding use_of R.only_register
  only-ready (number t) q = absurd (some-none q)
  only-ready (place d) q = (held-ready (meaning_at f d.name) d (R.bare_name d) d.name (small_at d.name) q, omega arith)

  number-ready : (a : Operand) → R.byte_rules f a ≡ unbroken → Argued a
  unfolding use_of R.byte_rules
  number-ready (number t) q =
      let e = (in-range 0 255 (value_at f t) (rule-holds (R.in_range 0 255 (value_at f t)) OutOfBounds t q)).1 in
      (tt, omega arith)
  number-ready (place d) q = absurd (some-none q)

  cell-ready : (a : Operand) → R.cell_rules f a ≡ unbroken → Argued a
  unfolding R.cell_rules
  cell-ready (number t) q = absurd (some-none q)
  cell-ready (place d) q = (designator-ready d (quiet-right (rule _ Misfit d.name) (R.place_rules f d) q), omega arith)

  plain_ready : (a : Operand) → R.plain_rules f a ≡ unbroken → Argued a
  unfolding R.plain_rules
  plain_ready (number t) q = absurd (some-none q)
  plain_ready (place d) q = cell-ready (place d) (quiet-left (R.cell_rules f (place d)) (R.no_index d.index) q)

  -- what a function takes, and no more
  abbrev Taken : Argument → Type 0
  Taken written_register = Unit {0}
  Taken read_register = Unit {0}
  Taken byte_number = Unit {0}
  Taken indexed_cell = Unit {0}
  Taken plain_cell = Unit {0}
  Taken surplus = ⊥

  argument-ready : (kept : List ℕ) (x : Argument) (a : Operand) → Taken x → R.argument_rules f kept x a ≡ unbroken → Argued a
  unfolding R.argument_rules
  argument-ready kept written_register a t q = only-ready a (quiet-left (R.only_register f a) (R.written_rules f kept a) q)
  argument-ready kept read_register a t q = only-ready a q
  argument-ready kept byte_number a t q = number-ready a q
  argument-ready kept indexed_cell a t q = cell-ready a q
  argument-ready kept plain_cell a t q = plain_ready a q
  argument-ready kept surplus a t q = absurd t

  taken_at : (xs : List Argument) (p : ℕ) → p < length xs → All Taken xs → Taken (get_or xs p surplus)
  taken_at [] p h t = absurd (omega arith)
  taken_at (x ∷ xs) zero h t = t.0
  taken_at (x ∷ xs) (suc p) h t = taken_at xs p (omega arith) t.1

  -- the rows of the table
  abbrev Sound : Function → Type 0
  Sound g = (g.op < 256) × (g.number < 256) × All Taken g.takes

  all_sound : (m : Meaning) → Sound (function_of m)
  all_sound m = by-meaning Sound rows (omega arith, omega arith, tt) m
    where
      rows : All Sound function_table
      rows = (
        (omega arith, omega arith, (tt, (tt, tt))),
        (
          (omega arith, omega arith, (tt, (tt, tt))),
          (
            (omega arith, omega arith, (tt, (tt, tt))),
            (
              (omega arith, omega arith, (tt, (tt, tt))),
              (
                (omega arith, omega arith, (tt, (tt, tt))),
                (
                  (omega arith, omega arith, (tt, tt)),
                  ((omega arith, omega arith, (tt, tt)), ((omega arith, omega arith, (tt, tt)), ((omega arith, omega arith, (tt, (tt, tt))), tt))),
                ),
              ),
            ),
          ),
        ),
      )

  with-ready : (g : Form) (op r v : ℕ) (a : Datum) → op < 256 → r < 16 → v < 256 → ReadyDatum l a → Ready l n (function_with g op r v a)
  with-ready F.operand op r v a o h k q = (o, h, q)
  with-ready F.address op r v a o h k q = (h, q)
  with-ready F.immediate op r v a o h k q = (o, k, q)

  on-ready : (g : Function) (r v : ℕ) (u : Use) → Sound g → r < 16 → v < 256 → ReadyUse u → AllReady (function_on g r v u)
  on-ready g r v (held s) t h k q = ((t.0, h, q), tt)
  on-ready g r v (stored w a) t h k q = (with-ready g.form g.op r v a t.0 h k q, tt)
  on-ready g r v absent t h k q = tt

  if-ready : (b : Bool) (is : List Instruction) → (b ≡ true → AllReady is) → AllReady (whether b then is else [])
  if-ready true is h = h refl
  if-ready false is h = tt

  -- the arguments of a use from position q on, each with the registers that are protected there
  abbrev Arguments : Function → ℕ → List Operand → Type 0
  Arguments g q [] = Unit {0}
  Arguments g q (a ∷ xs) = ((kept : List ℕ) × (R.argument_rules f kept (argument_at g q) a ≡ unbroken)) × Arguments g (q + 1) xs

  function-ready : (g : Function) → Sound g → (a : Operand) (xs : List Operand) → Arguments g 0 (a ∷ xs) → AllReady (function_code f g a xs)
  unfolding function_code
  function-ready g s a [] ((kept, q), u) =
      if-ready (eqb 1 (arity g)) (function_on g 0 g.number (use_of f a))
      (λ e. let h = eqb-true 1 (arity g) e in
      on-ready g 0 g.number (use_of f a) s (omega arith) s.1 (argument-ready kept (argument_at g 0) a (taken_at g.takes 0 (omega arith) s.2) q).0)
  function-ready g s a (b ∷ []) ((kept, q), ((kept', q'), u)) =
      if-ready (eqb 2 (arity g) && is_token a) (function_on g (source_of f a) (number_of f a) (use_of f b))
      (λ e. let h = eqb-true 2 (arity g) (both (eqb 2 (arity g)) (is_token a) e).0 in
      on-ready g (source_of f a) (number_of f a) (use_of f b) s (source-ready a)
      (argument-ready kept (argument_at g 0) a (taken_at g.takes 0 (omega arith) s.2) q).1
      (argument-ready kept' (argument_at g 1) b (taken_at g.takes 1 (omega arith) s.2) q').0)
  function-ready g s a (b ∷ c ∷ xs) q = tt

  -- ── the whole text ──

  abbrev Quiet : List Event → Place → Type 0
  Quiet es p = Along (Unbroken f) es p

  -- no rule is broken in what follows, wherever it stands
  abbrev Later : List Event → Type 0
  Later k = (q : Place) × Quiet k q

  abbrev Passes : (List Event → List Event) → Type 0
  Passes out = (k : List Event) (p : Place) → Quiet (out k) p → Later k

  each-passes : {A : Type 0} (out : A → List Event → List Event) → ((x : A) → Passes (out x)) → (xs : List A) → Passes (each out xs)
  unfolding each
  each-passes out h [] k p q = (p, q)
  each-passes out h (x ∷ xs) k p q = let (o, r) = h x (each out xs k) p q in each-passes out h xs k o r

  item-passes : (c : Option ℕ) (w : Width) (i : T.Item) → Passes (events_item c w i)
  unfolding events_item Along
  item-passes c w i k p (q, r) = each-passes events_value (λ t k p (q, r). (_, r)) i.numbers k _ r

  terms-quiet : (d : Designator) (ts : List Term) (k : List Event) (p : Place) → Quiet (each (events_term d) ts k) p → Terms (meaning_at f d.name) ts × Quiet k p
  unfolding each Along
  terms-quiet d [] k p q = (tt, q)
  terms-quiet d (t ∷ ts) k p (q, qs) = let (r, s) = terms-quiet d ts k p qs in (((kept_in f p, q), r), s)

  sign-quiet : (d : Designator) (g : Sign) (k : List Event) (p : Place) → Quiet (events_sign d g k) p → Quiet k p
  unfolding events_sign Along
  sign-quiet d plain k p q = q
  sign-quiet d (abs t) k p (q, r) = r
  sign-quiet d (neg t) k p (q, r) = r
  sign-quiet d (neg_abs t) k p (q, r) = r

  -- what follows a target
  chain-quiet : (a : Assignment) (k : List Event) (p : Place) → Quiet (events_chain a k) p
      → (R.first_by f (meaning_at f a.target.name) a.first ≡ unbroken) × Terms (meaning_at f a.target.name) a.rest × Quiet k p
  unfolding events_chain Along
  chain-quiet a k p h =
      let (q, r) = sign-quiet a.target a.sign (phrase (given a.target a.first) ∷ each (events_term a.target) a.rest k) p h in
      let (t, s) = terms-quiet a.target a.rest k p r in
      (q, t, s)

  arguments-quiet : (m q : ℕ) (xs : List Operand) (k : List Event) (p : Place) → Quiet (events_arguments m q xs k) p → Arguments (function_of (meaning_at f m)) q xs × Quiet k p
  unfolding events_arguments Along
  arguments-quiet m q [] k p (h, hs) = (tt, hs)
  arguments-quiet m q (a ∷ xs) k p (h, hs) = let (r, s) = arguments-quiet m (q + 1) xs k p hs in (((kept_in f p, h), r), s)

  mutual
    unfolding core_statement events_statement events_declaration assignment_of R.target_rules R.control_rules R.only_register Along

    core-made : (x : Statement) (k : List Event) (p : Place) → Quiet (events_statement x k) p → ReadyCore l n (core_statement f x) × Later k
    core-made (T.assign a) k p (h, hs) =
        let (q, r, s) = chain-quiet a k p hs in
        (assign-ready (meaning_at f a.target.name) a (small_at a.target.name) (quiet-left (R.place_rules f a.target) _ h) q r, (p, s))
    core-made (T.call m) k p (h, hs) = (return-ready (meaning_at f m) (small_at m), (p, hs))
    core-made (T.apply m a xs) k p (h, hs) = let (r, s) = arguments-quiet m 0 (a ∷ xs) k p hs in (function-ready (function_of (meaning_at f m)) (all_sound (meaning_at f m)) a xs r, (p, s))
    core-made (T.block t x) k p (h, hs) = let (r, (o, (g, gs))) = core-made-body x (edge (closed t) ∷ k) _ hs in (r, (_, gs))
    core-made (T.goto t m) k p (h, hs) = (tt, (p, hs))
    core-made T.null k p h = (tt, (p, h))
    core-made (T.if_then t c x) k p (h, hs) =
        let r = test-ready c h in
        let (s, (o, (g, gs))) = core-made x (mark (ended_if t) ∷ k) p hs in
        ((r.0, r.1, s), (_, gs))
    core-made (T.if_else t c x e y) k p (h, hs) =
        let r = test-ready c h in
        let (s, (o, (g, gs))) = core-made x (mark (otherwise t) ∷ events_statement y (mark (ended_else t) ∷ k)) p hs in
        let (u, (o', (g', gs'))) = core-made y (mark (ended_else t) ∷ k) o gs in
        ((r.0, r.1, s, u), (_, gs'))
    core-made (T.while t c x) k p (m, (h, hs)) =
        let r = test-ready c h in
        let (s, (o, (g, gs))) = core-made x (mark (ended_while t) ∷ k) p hs in
        ((r.0, r.1, s), (_, gs))
    core-made (T.for t a v m x) k p (h, hs) =
        let (q, r, (s, ss)) = chain-quiet a (phrase (limited a.target v m) ∷ events_statement x (mark (ended_for v) ∷ k)) p hs in
        let (u, (o, (g, gs))) = core-made x (mark (ended_for v) ∷ k) p ss in
        let i = register-at a.target.name in (
          (
            control-ready (meaning_at f a.target.name) a (R.bare_name a.target) a.target.name (small_at a.target.name) (quiet-left (rule _ Misfit a.target.name) _ h) q r,
            compare-ready (control_of f a) m i s,
            exit-ready (value_at f v),
            i,
            u,
          ),
          (_, gs),
        )
    core-made (T.choose t m xs) k p (c, (h, hs)) = let (s, (o, (g, gs))) = core-made-choices m xs (mark (ended_case m) ∷ k) p hs in ((register-at m, s), (_, gs))

    core-made-body : (x : Body) (k : List Event) (p : Place) → Quiet (events_body x k) p → ReadyCore l n (core_body f x) × Later k
    core-made-body (T.declare (T.registers rs) x) k p h = let (o, g) = each-passes events_register (λ r k p (q, s). (_, s)) rs (events_body x k) p h in core-made-body x k o g
    core-made-body (T.declare (T.cells c w is) x) k p (h, hs) = let (o, g) = each-passes (events_item c w) (item-passes c w) is (events_body x k) _ hs in core-made-body x k o g
    core-made-body (T.declare (T.base m) x) k p (h, hs) = let (r, s) = core-made-body x k _ hs in ((register-at m, base-segment f (kept_in f p) m h, r), s)
    core-made-body (T.procedure m r x y) k p (h, hs) =
        let (s, (o, (g, gs))) = core-made x (edge (left m) ∷ events_body y k) _ hs in
        let (u, v) = core-made-body y k _ gs in
        ((register-at r, s, u), v)
    core-made-body (T.items is) k p h = core-made-items is k p h

    core-made-items : (is : Items) (k : List Event) (p : Place) → Quiet (events_items is k) p → ReadyCore l n (core_items f is) × Later k
    core-made-items T.ended k p h = (tt, (p, h))
    core-made-items (T.label x is) k p (h, hs) = core-made-items is k _ hs
    core-made-items (T.item x is) k p h =
        let (r, (o, g)) = core-made x (events_items is k) p h in
        let (s, t) = core-made-items is k o g in
        ((r, s), t)

    core-made-choices : (t : ℕ) (xs : Choices) (k : List Event) (p : Place) → Quiet (events_choices t xs k) p → ReadyArms l n (core_choices f xs) × Later k
    core-made-choices t T.over k p h = (tt, (p, h))
    core-made-choices t (T.choice x xs) k p h =
        let (r, (o, (g, gs))) = core-made x (mark (ended_choice t) ∷ events_choices t xs k) p h in
        let (s, u) = core-made-choices t xs k o gs in
        ((r, s), u)

  pub core-ready : (x : Statement) → Along (Unbroken f) (events_of x) [] → ReadyCore l n (core_statement f x)
  core-ready x h = (core-made x [] [] h).0
