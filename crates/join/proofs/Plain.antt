-- Where no rule is broken at them, the instructions of operands, terms, loads, comparisons, stores and standard functions are plain.
use mathlib.Core.Path.{◌≡◌, refl, sym, ap, subst, ◌∙◌}
use mathlib.Core.Logic.{◌⊎◌, inl, inr}
use mathlib.Core.List.{List, [], ◌∷◌}
use mathlib.Core.Bool.{Bool, true, false, not, ◌&&◌}
use mathlib.Core.Option.{Option, none, some}
use Prim.Native.Nat.{ℕ, ◌+◌, ◌*◌, ◌-◌, ◌%◌, ◌<◌, ◌≤◌}
use native.Mathlib.Omega.{arith}
use lib.Dec.{eqb}
use borrow.Author.Tests.{eqb-true, eqb-false}
use Rattle.base.specs.Choose.{whether◌then◌else◌}
use Rattle.base.specs.Lists.{◌∈◌, All, member}
use Rattle.base.proofs.Lists.{member-in, in-member}
use Rattle.base.proofs.Tests.{never_true, both}
use Rattle.token.specs.Kinds as K
use Rattle.grammar.specs.Tree.{Designator, Operand, number, place, Sign, plain, abs, neg, neg_abs, Term, Width, full, short, byte}
use Rattle.scopes.specs.declared.Refusal.TheVariants.{Misfit, WrongRegister, Protected, OutOfBounds}
use Rattle.scopes.specs.Broken.{unbroken, ◌⊕◌, rule}
use Rattle.scopes.proofs.Joins.{some-none, quiet-left, quiet-right, rule-holds}
use Rattle.static_rules.specs.Functions as F
use Rattle.static_rules.specs.Functions.{Argument, written_register, read_register, byte_number, indexed_cell, plain_cell, surplus, Form, Function, function_table, function_at, arity, argument_at, is_written}
use Rattle.static_rules.specs.Meaning.{Meaning, nothing, register, cell, routine, function, Cell, element_size, is_full, is_half, is_byte, is_long, operand_meaning, register_of, function_of, long_operand}
use Rattle.static_rules.specs.Tables.{Tables, kind_at, value_at, meaning_at}
use Rattle.static_rules.specs.Rules as R
use Rattle.static_rules.specs.Rules.{is_register, shifts, full_only, inside, is_short, is_cell, is_byte_cell}
use Rattle.static_rules.proofs.Elements.{in-range, inside_is}
use Rattle.static_rules.proofs.Small.{Small, register-small, meaning-small}
use Rattle.static_rules.proofs.Uses.{by-meaning}
use Rattle.machine.specs.declared.Fun.{Fun}
use Rattle.machine.specs.declared.Fun.TheVariants.{Positive, Complement, Negative, MultiplyHalf, Insert, Test}
use Rattle.machine.specs.declared.Shift.{Shift}
use Rattle.machine.specs.Instructions as M
use Rattle.machine.specs.Instructions.{Short, Long, applies_to, stores, long_kind}
use Rattle.translation.specs.Instructions.{Datum, element, literal, entry, Instruction, rr, rx, address, immediate, shift, opcode, row_of, load_row, add_row, compare_row, times_row, store_row, shift_code, test_op}
use Rattle.translation.specs.Core.{Use, held, stored, absent, apply, signed, load, function_with, function_on, is_token, subscript_of, index_of, use_by, use_of, shift_by, product_target, term_of, source_of, number_of, compare_with, function_code}
use Rattle.translation.specs.Layout.{Layout, offset_of}
use Rattle.translation.proofs.Rooms.{CellAt}
use Rattle.join.specs.Writes.{writes, writes_short, writes_long}
use Rattle.join.specs.Points.{Within, Writes, Point}
use Rattle.join.proofs.Safe.{PlainShort, Reads, Serves, InCell, served-all, FitsDatum, TakesNumber, Fits, Plain, Choosing}
use Rattle.join.proofs.Opcodes.{writes-only, AppliesShort, AppliesLong, Row, ShortRow, load_row_lem, add_row_lem, operator-row, short_row, shift-kind}

pub is-register : (m : Meaning) → is_register m ≡ true → m ≡ register (register_of m)
is-register nothing h = never_true h
is-register (register r) h = refl
is-register (cell c) h = never_true h
is-register (routine r) h = never_true h
is-register (function k) h = never_true h

-- register r may be written at p
pub record Free (p : Point) (r : ℕ) : Type 0 where
  pub spared : r ∈ p.kept → ⊥
  pub counted : (v : Within) → p.within ≡ some v → Writes v r

module _ (l : Layout) (p : Point) where
  -- ── instructions ──

  -- what an instruction may write, each register
  plain_by : (i : Instruction) → Fits l p i → ((x : ℕ) → x ∈ writes i → Free p x) → Plain l p i
  plain_by i h f = record { fits = h; spared = λ x k. (f x k).spared; counted = λ v e x k. (f x k).counted v e }

  free-same : {r x : ℕ} → x ≡ r → Free p r → Free p x
  free-same e h = subst (Free p) (sym e) h

  -- the one register of a list
  free_one : (r x : ℕ) → Free p r → (x ≡ r) ⊎ ⊥ → Free p x
  free_one r x h (inl e) = free-same e h
  free_one r x h (inr e) = absurd e

  plain-short : (op r s : ℕ) → AppliesShort op → s < 16 → Free p r → Plain l p (rr op r s)
  plain-short op r s (o, (f, e)) h k =
      plain_by (rr op r s) (o, subst (λ (t : Short). PlainShort t r) (sym e) tt, h)
      (λ x i. free-same (writes-only f r x (subst (λ (t : Short). x ∈ writes_short t r) e i)) k)

  -- ── operands in storage, of the width w ──

  abbrev pub Stored : Width → Datum → Type 0
  Stored w (element c o x) = InCell l p c o x × (w ≡ c.width)
  Stored w (literal v) = w ≡ full
  Stored w (entry k) = ⊥

  datum-fits : (k : Long) (r : ℕ) (w : Width) (a : Datum) → Reads k (element_size w) r → Stored w a → FitsDatum l p k r a
  datum-fits k r w (element c o x) h (i, e) = (i, served-all (inl (subst (λ (y : Width). Reads k (element_size y) r) e h)))
  datum-fits k r w (literal v) h e = subst (λ (y : Width). Reads k (element_size y) r) e h
  datum-fits k r w (entry n) h e = absurd e

  plain-long : (op r : ℕ) (w : Width) (a : Datum) → AppliesLong op (element_size w) → Stored w a → Free p r → Plain l p (rx op r a)
  plain-long op r w a (o, (f, e)) h k =
      plain_by (rx op r a) (o, datum-fits (long_kind op) r w a (subst (λ (t : Long). Reads t (element_size w) r) (sym e) refl) h)
      (λ x i. free-same (writes-only f r x (subst (λ (t : Long). x ∈ writes_long t r) e i)) k)

  -- ── operands of assignments and conditions ──

  -- no byte cell
  abbrev pub Used : Use → Type 0
  Used (held s) = s < 16
  Used (stored full a) = Stored full a
  Used (stored short a) = Stored short a
  Used (stored (byte c) a) = ⊥
  Used absent = Unit {0}

  pub not_byte : (w : Width) (a : Datum) → not (is_byte w) ≡ true → Stored w a → Used (stored w a)
  not_byte full a h k = k
  not_byte short a h k = k
  not_byte (byte c) a h k = never_true h

  -- a row that a short cell may have
  abbrev TakesShort : ℕ → Use → Type 0
  TakesShort row (held s) = Unit {0}
  TakesShort row (stored full a) = Unit {0}
  TakesShort row (stored short a) = ShortRow row
  TakesShort row (stored (byte c) a) = Unit {0}
  TakesShort row absent = Unit {0}

  takes-short : (row : ℕ) (u : Use) → ShortRow row → TakesShort row u
  takes-short row (held s) h = tt
  takes-short row (stored full a) h = tt
  takes-short row (stored short a) h = h
  takes-short row (stored (byte c) a) h = tt
  takes-short row absent h = tt

  plain-apply : (row r : ℕ) (u : Use) → Row row → TakesShort row u → Used u → Free p r → All (Plain l p) (apply row r u)
  plain-apply row r (held s) h t k y = (plain-short (opcode row 0) r s h.0 k y, tt)
  plain-apply row r (stored full a) h t k y = (plain-long (opcode row 1) r full a h.1 k y, tt)
  plain-apply row r (stored short a) h t k y = (plain-long (opcode row 2) r short a t k y, tt)
  plain-apply row r (stored (byte c) a) h t k y = absurd k
  plain-apply row r absent h t k y = tt

  -- ── comparisons, which write nothing ──

  plain-compare : (r : ℕ) (u : Use) → Used u → All (Plain l p) (apply compare_row r u)
  unfolding opcode
  plain-compare r (held s) k = (plain_by (rr 0x19 r s) (omega arith, tt, k) (λ x i. absurd i), tt)
  plain-compare r (stored full a) k = (plain_by (rx 0x59 r a) (omega arith, datum-fits (long_kind 0x59) r full a refl k) (λ x i. absurd i), tt)
  plain-compare r (stored short a) k = (plain_by (rx 0x49 r a) (omega arith, datum-fits (long_kind 0x49) r short a refl k) (λ x i. absurd i), tt)
  plain-compare r (stored (byte c) a) k = absurd k
  plain-compare r absent k = tt

  -- ── loads ──

  -- the target is named twice: it is a register
  plain-signed : (op r : ℕ) (u : Use) → AppliesShort op → r < 16 → Used u → Free p r → All (Plain l p) (signed op r u)
  plain-signed op r (held s) h small k y = (plain-short op r s h k y, tt)
  plain-signed op r (stored full a) h small k y = (plain-long (opcode load_row 1) r full a load_row_lem.0.1 k y, (plain-short op r r h small y, tt))
  plain-signed op r (stored short a) h small k y = (plain-long (opcode load_row 2) r short a load_row_lem.1 k y, (plain-short op r r h small y, tt))
  plain-signed op r (stored (byte c) a) h small k y = absurd k
  plain-signed op r absent h small k y = tt

  pub plain-load : (s : Sign) (r : ℕ) (u : Use) → r < 16 → Used u → Free p r → All (Plain l p) (load s r u)
  plain-load plain r u small k y = plain-apply load_row r u load_row_lem.0 (takes-short load_row u load_row_lem.1) k y
  plain-load (abs t) r u small k y = plain-signed 0x10 r u (omega arith, (Positive, refl)) small k y
  plain-load (neg t) r u small k y = plain-signed 0x13 r u (omega arith, (Complement, refl)) small k y
  plain-load (neg_abs t) r u small k y = plain-signed 0x11 r u (omega arith, (Negative, refl)) small k y

  -- ── stores ──

  plain-store : (r : ℕ) (w : Width) (c : Cell) (o x : ℕ) → Used (stored w (element c o x)) → All (Plain l p) (apply store_row r (stored w (element c o x)))
  unfolding opcode
  plain-store r full c o x (i, e) =
      (plain_by (rx 0x50 r (element c o x)) (omega arith, (i, served-all (subst (λ (y : Width). Serves (long_kind 0x50) (element_size y) r) e (inr refl)))) (λ y k. absurd k), tt)
  plain-store r short c o x (i, e) =
      (plain_by (rx 0x40 r (element c o x)) (omega arith, (i, served-all (subst (λ (y : Width). Serves (long_kind 0x40) (element_size y) r) e (inr refl)))) (λ y k. absurd k), tt)
  plain-store r (byte b) c o x k = absurd k

  -- ── a step of FOR ──

  pub plain_step : (r v : ℕ) → Free p r → Plain l p (rx (opcode add_row 1) r (literal v))
  plain_step r v y = plain-long (opcode add_row 1) r full (literal v) add_row_lem.0.1 refl y

  -- ── the head of a CASE that chooses from n statements ──

  pub plain-choosing : (r n : ℕ) → 0 < r → r < 16 → Free p r → Choosing l p r n
  plain-choosing r n low small y =
      record {
        positive = low;
        small = small;
        compare = (plain-compare r (stored full (literal n)) refl).0;
        test = plain-short test_op r r (omega arith, (Test, refl)) small y;
        scale = let k = shift-kind K.SHLL (inl refl) in plain_by (shift (shift_code K.SHLL) r 0 2) (k.0, k.1, omega arith) (λ x i. free_one r x y i);
      }

  -- ── products ──

  -- both registers of a product of which the upper is odd
  free-pair : (r x : ℕ) → r % 2 ≡ 1 → Free p r → Free p (r - 1) → (x ≡ r - 1) ⊎ ((x ≡ (r - 1) + 1) ⊎ ⊥) → Free p x
  free-pair r x odd y z (inl e) = free-same e z
  free-pair r x odd y z (inr (inl e)) = free-same (omega arith) y
  free-pair r x odd y z (inr (inr e)) = absurd e

  -- an operand that is not a half word
  abbrev Whole : Use → Type 0
  Whole (held s) = Unit {0}
  Whole (stored full a) = Unit {0}
  Whole (stored short a) = ⊥
  Whole (stored (byte c) a) = ⊥
  Whole absent = Unit {0}

  plain-product : (r : ℕ) (u : Use) → Whole u → r % 2 ≡ 1 → Used u → Free p r → Free p (r - 1) → All (Plain l p) (apply times_row (r - 1) u)
  unfolding opcode
  plain-product r (held s) t odd k y z = (plain_by (rr 0x1c (r - 1) s) (omega arith, omega arith, k) (λ x i. free-pair r x odd y z i), tt)
  plain-product r (stored full a) t odd k y z =
      (plain_by (rx 0x5c (r - 1) a) (omega arith, datum-fits (long_kind 0x5c) (r - 1) full a (refl, omega arith) k) (λ x i. free-pair r x odd y z i), tt)
  plain-product r (stored short a) t odd k y z = absurd t
  plain-product r (stored (byte c) a) t odd k y z = absurd t
  plain-product r absent t odd k y z = tt

  plain-half : (r : ℕ) (a : Datum) → Stored short a → Free p r → All (Plain l p) (apply times_row r (stored short a))
  unfolding opcode
  plain-half r a k y = (plain-long 0x4c r short a (omega arith, (MultiplyHalf, refl)) k y, tt)

  -- ── standard functions with a cell ──

  -- its opcode stores or reads one byte, or takes a number; what it writes is free
  abbrev FormFits : Form → ℕ → ℕ → Type 0
  FormFits F.operand op r = (64 ≤ op) × ((long_kind op ≡ stores 1) ⊎ (((f : Fun) × (long_kind op ≡ applies_to 1 f)) × Free p r))
  FormFits F.address op r = Free p r
  FormFits F.immediate op r = (64 ≤ op) × TakesNumber (long_kind op)

  plain_form : (g : Form) (op r v : ℕ) (c : Cell) (o x : ℕ) → InCell l p c o x → FormFits g op r → Plain l p (function_with g op r v (element c o x))
  plain_form F.operand op r v c o x i (h, inl e) =
      plain_by (rx op r (element c o x)) (h, (i, record { bytes = 1; part = inr refl; serves = inr e })) (λ y k. absurd (subst (λ (t : Long). y ∈ writes_long t r) e k))
  plain_form F.operand op r v c o x i (h, inr ((f, e), k)) =
      plain_by (rx op r (element c o x)) (h, (i, record { bytes = 1; part = inr refl; serves = inl (subst (λ (t : Long). Reads t 1 r) (sym e) refl) }))
      (λ y j. free-same (writes-only f r y (subst (λ (t : Long). y ∈ writes_long t r) e j)) k)
  plain_form F.address op r v c o x i k = plain_by (address r (element c o x)) i (λ y j. free_one r y k j)
  plain_form F.immediate op r v c o x i (h, t) = plain_by (immediate op v (element c o x)) (h, t, i) (λ y j. absurd j)

-- ── by the tables: registers are 0 to 15, cells stand where the layout says ──

module _
    (f : Tables) (small : All Small f.means) (l : Layout) (p : Point)
    (stands : (t : ℕ) (c : Cell) → meaning_at f t ≡ cell c → CellAt c l.ends (offset_of l.placed c.name))
  where
    small_at : (t : ℕ) → Small (meaning_at f t)
    small_at t = meaning-small f.found f.means t small

    pub register-at : (t : ℕ) → register_of (meaning_at f t) < 16
    register-at t = register-small (meaning_at f t) (small_at t)

    -- where the name at token t means a cell, its base is in force
    abbrev pub Seen : ℕ → Type 0
    Seen t = (c : Cell) → meaning_at f t ≡ cell c → c.base ∈ p.bases

    abbrev pub SeenOperand : Operand → Type 0
    SeenOperand (number t) = Unit {0}
    SeenOperand (place d) = Seen d.name

    index-small : (x : Option ℕ) → index_of f x < 16
    index-small none = omega arith
    index-small (some t) = register-at t

    first-element : (w : Width) (n : ℕ) → 1 ≤ n → (0 % element_size w ≡ 0) × (0 + element_size w ≤ element_size w * n)
    first-element full n h = (refl, omega arith)
    first-element short n h = (refl, omega arith)
    first-element (byte c) n h = (refl, omega arith)

    subscript-in : (c : Cell) (s : Option ℕ) → 1 ≤ c.elements → R.subscript_rules f c s ≡ unbroken
        → (subscript_of f s % element_size c.width ≡ 0) × (subscript_of f s + element_size c.width ≤ element_size c.width * c.elements)
    unfolding R.subscript_rules
    subscript-in c none h q = first-element c.width c.elements h
    subscript-in c (some t) h q = inside_is c (value_at f t) (rule-holds (inside c (value_at f t)) OutOfBounds t q)

    cell_in : (c : Cell) (d : Designator) → meaning_at f d.name ≡ cell c → 1 ≤ c.elements → Seen d.name → R.place_by f (cell c) d ≡ unbroken
        → InCell l p c (subscript_of f d.subscript) (index_of f d.index)
    cell_in c d e h k q =
        let s = quiet-left (R.subscript_rules f c d.subscript) (R.index_rules f d.index) (quiet-right _ (R.subscript_rules f c d.subscript ⊕ R.index_rules f d.index) q) in
        let i = subscript-in c d.subscript h s in
        record { based = k c e; index = index-small d.index; aligned = i.0; whole = i.1; at = stands d.name c e }

    used-by : (m : Meaning) (d : Designator) → meaning_at f d.name ≡ m → Small m → Seen d.name → R.place_by f m d ≡ unbroken → not (is_byte_cell m) ≡ true → Used l p (use_by f m d)
    used-by nothing d e h k q b = tt
    used-by (register r) d e h k q b = h
    used-by (cell c) d e h k q b = not_byte l p c.width (element c (subscript_of f d.subscript) (index_of f d.index)) b (cell_in c d e h.1 k q, refl)
    used-by (routine r) d e h k q b = tt
    used-by (function i) d e h k q b = tt

    used-place : (d : Designator) → Seen d.name → R.place_rules f d ≡ unbroken → R.no_byte f d ≡ unbroken → Used l p (use_by f (meaning_at f d.name) d)
    unfolding R.place_rules R.no_byte
    used-place d k q b =
        used-by (meaning_at f d.name) d refl (small_at d.name) k q (rule-holds (not (is_byte_cell (meaning_at f d.name))) Misfit d.name b)

    pub used : (a : Operand) → SeenOperand a → R.operand_rules f a ≡ unbroken → Used l p (use_of f a)
    unfolding use_of R.operand_rules
    used (number t) k q = refl
    used (place d) k q = used-place d k (quiet-left (R.place_rules f d) (R.no_byte f d) q) (quiet-right (R.place_rules f d) (R.no_byte f d) q)

    pub plain-compared : (r : ℕ) (a : Operand) → SeenOperand a → R.operand_rules f a ≡ unbroken → All (Plain l p) (compare_with f r a)
    unfolding compare_with
    plain-compared r a k q = plain-compare l p r (use_of f a) (used a k q)

    -- a register stored in a cell
    pub plain-stored : (r : ℕ) (d : Designator) (c : Cell) → meaning_at f d.name ≡ cell c → Seen d.name → R.place_rules f d ≡ unbroken → R.no_byte f d ≡ unbroken
        → All (Plain l p) (apply store_row r (use_of f (place d)))
    unfolding use_of
    plain-stored r d c e k q b =
        subst (λ (m : Meaning). All (Plain l p) (apply store_row r (use_by f m d))) (sym e)
        (plain-store l p r c.width c (subscript_of f d.subscript) (index_of f d.index) (subst (λ (m : Meaning). Used l p (use_by f m d)) e (used-place d k q b)))

    -- ── terms ──

    plain-shift : (op r : ℕ) (a : Operand) → (64 ≤ op) × ((s : Shift) × (long_kind op ≡ M.shifts s)) → R.shift_rules f a ≡ unbroken → Free p r → All (Plain l p) (shift_by f op r a)
    unfolding shift_by R.shift_rules
    plain-shift op r (number t) h q y =
        let e = (in-range 0 63 (value_at f t) (rule-holds (R.in_range 0 63 (value_at f t)) OutOfBounds t q)).1 in
        (plain_by l p (shift op r 0 (value_at f t)) (h.0, h.1, omega arith) (λ x i. free_one l p r x y i), tt)
    plain-shift op r (place d) h q y = (plain_by l p (shift op r (register_of (meaning_at f d.name)) 0) (h.0, h.1, omega arith) (λ x i. free_one l p r x y i), tt)

    -- what a product by such an operand asks of its target
    abbrev Lower : Bool → ℕ → Type 0
    Lower long r = long ≡ true → (r % 2 ≡ 1) × Free p (r - 1)

    times-stored : (r : ℕ) (w : Width) (a : Datum) → Used l p (stored w a) → Lower (is_full w) r → Free p r → All (Plain l p) (apply times_row (whether is_full w then (r - 1) else r) (stored w a))
    times-stored r full a k h y = let z = h refl in plain-product l p r (stored full a) tt z.0 k y z.1
    times-stored r short a k h y = plain-half l p r a k y
    times-stored r (byte c) a k h y = absurd k

    times-by : (r : ℕ) (m : Meaning) (d : Designator) → Used l p (use_by f m d) → Lower (is_long m) r → Free p r
        → All (Plain l p) (apply times_row (whether is_long m then (r - 1) else r) (use_by f m d))
    times-by r nothing d k h y = tt
    times-by r (register s) d k h y = let z = h refl in plain-product l p r (held s) tt z.0 k y z.1
    times-by r (cell c) d k h y = times-stored r c.width _ k h y
    times-by r (routine s) d k h y = tt
    times-by r (function i) d k h y = tt

    plain-times : (r : ℕ) (a : Operand) → Used l p (use_of f a) → Lower (long_operand f.found f.means a) r → Free p r → All (Plain l p) (apply times_row (product_target f r a) (use_of f a))
    unfolding use_of
    plain-times r (number t) k h y = let z = h refl in plain-product l p r (stored full (literal (value_at f t))) tt z.0 k y z.1
    plain-times r (place d) k h y = times-by r (meaning_at f d.name) d k h y

    -- an operand that is no short cell
    no-short-width : (row : ℕ) (w : Width) (a : Datum) → not (is_half w) ≡ true → TakesShort l p row (stored w a)
    no-short-width row full a h = tt
    no-short-width row short a h = never_true h
    no-short-width row (byte c) a h = tt

    no-short-by : (row : ℕ) (m : Meaning) (d : Designator) → not (is_short m) ≡ true → TakesShort l p row (use_by f m d)
    no-short-by row nothing d h = tt
    no-short-by row (register r) d h = tt
    no-short-by row (cell c) d h = no-short-width row c.width (element c (subscript_of f d.subscript) (index_of f d.index)) h
    no-short-by row (routine r) d h = tt
    no-short-by row (function i) d h = tt

    no_short_lem : (row : ℕ) (a : Operand) → R.no_short f a ≡ unbroken → TakesShort l p row (use_of f a)
    unfolding use_of R.no_short
    no_short_lem row (number t) q = tt
    no_short_lem row (place d) q = no-short-by row (meaning_at f d.name) d (rule-holds (not (is_short (meaning_at f d.name))) Misfit d.name q)

    -- ── terms of the target r ──

    -- the register below, where a product is written
    abbrev pub Below : ℕ → Term → Type 0
    Below r t = eqb (kind_at f t.operator) K.TIMES ≡ true → long_operand f.found f.means t.operand ≡ true → (v : Within) → p.within ≡ some v → Writes v (r - 1)

    not-member : (x : ℕ) (xs : List ℕ) → not (member x xs) ≡ true → x ∈ xs → ⊥
    not-member x xs h i = never_true (sym (ap not (in-member x xs i)) ∙ h)

    pub spared-by : (r t : ℕ) → R.write_rule p.kept r t ≡ unbroken → r ∈ p.kept → ⊥
    unfolding R.write_rule
    spared-by r t q = not-member r p.kept (rule-holds (not (member r p.kept)) Protected t q)

    lower : (r : ℕ) (t : Term) → eqb (kind_at f t.operator) K.TIMES ≡ true → R.product_rules f p.kept r t ≡ unbroken → Below r t
        → Lower (long_operand f.found f.means t.operand) r
    unfolding R.product_rules
    lower r t times q b long =
        let h : (rule (eqb (r % 2) 1) WrongRegister t.operator ⊕ R.write_rule p.kept (r - 1) t.operator) ≡ unbroken = rw long at q in
        let odd = eqb-true (r % 2) 1 (rule-holds (eqb (r % 2) 1) WrongRegister t.operator (quiet-left _ _ h)) in
        (odd, record { spared = spared-by (r - 1) t.operator (quiet-right (rule (eqb (r % 2) 1) WrongRegister t.operator) _ h); counted = b times long })

    pub plain-term : (r : ℕ) (t : Term) → SeenOperand t.operand → R.term_rules f p.kept r t ≡ unbroken → Below r t → Free p r → All (Plain l p) (term_of f r t)
    unfolding term_of R.term_rules
    plain-term r t k q b y = go (member kind shifts) refl (eqb kind K.TIMES) refl (member kind full_only) refl q
      where
        kind : ℕ
        kind = kind_at f t.operator

        a : Operand
        a = t.operand

        go : (i : Bool) → member kind shifts ≡ i → (j : Bool) → eqb kind K.TIMES ≡ j → (z : Bool) → member kind full_only ≡ z
            → (whether i then R.shift_rules f a else
            whether j then R.product_rules f p.kept r t ⊕ R.operand_rules f a else
            whether z then R.operand_rules f a ⊕ R.no_short f a else R.operand_rules f a) ≡ unbroken
            → All (Plain l p) (whether i then shift_by f (shift_code kind) r a else whether j then apply times_row (product_target f r a) (use_of f a) else apply (row_of kind) r (use_of f a))
        go true e j g z o q = plain-shift (shift_code kind) r a (shift-kind kind (member-in kind shifts e)) q y
        go false e true g z o q =
            plain-times r a (used a k (quiet-right (R.product_rules f p.kept r t) (R.operand_rules f a) q)) (lower r t g (quiet-left _ (R.operand_rules f a) q) b) y
        go false e false g true o q =
            plain-apply l p (row_of kind) r (use_of f a) (operator-row kind (eqb-false _ _ g)) (no_short_lem (row_of kind) a (quiet-right (R.operand_rules f a) _ q))
            (used a k (quiet-left (R.operand_rules f a) (R.no_short f a) q)) y
        go false e false g false o q =
            plain-apply l p (row_of kind) r (use_of f a) (operator-row kind (eqb-false _ _ g))
            (takes-short l p (row_of kind) (use_of f a) (short_row kind (eqb-false _ _ g) (λ i. never_true (sym o ∙ in-member kind full_only i)))) (used a k q) y

    -- ── uses of functions ──

    pub register-is : (d : Designator) → R.only_register f (place d) ≡ unbroken → meaning_at f d.name ≡ register (register_of (meaning_at f d.name))
    unfolding R.only_register
    register-is d q =
        is-register (meaning_at f d.name)
        (both (is_register (meaning_at f d.name)) (R.bare_name d) (rule-holds (is_register (meaning_at f d.name) && R.bare_name d) Misfit d.name q)).0

    -- a register, in the instruction as it is written
    pub record Alone (a : Operand) : Type 0 where
      pub low : source_of f a < 16
      pub used-as : use_of f a ≡ held (source_of f a)

    alone : (a : Operand) → R.only_register f a ≡ unbroken → Alone a
    unfolding R.only_register use_of
    alone (number t) q = absurd (some-none q)
    alone (place d) q = record { low = register-at d.name; used-as = ap (λ (m : Meaning). use_by f m d) (register-is d q) }

    -- an element of a cell
    pub record Element (a : Operand) : Type 0 where
      pub c : Cell
      pub offset : ℕ
      pub index : ℕ
      pub at : InCell l p c offset index
      pub used-as : use_of f a ≡ stored c.width (element c offset index)

    element-by : (m : Meaning) (d : Designator) → meaning_at f d.name ≡ m → Small m → Seen d.name → is_cell m ≡ true → R.place_by f m d ≡ unbroken → Element (place d)
    unfolding use_of
    element-by nothing d e h k b q = never_true b
    element-by (register r) d e h k b q = never_true b
    element-by (cell c) d e h k b q =
        record { c = c; offset = subscript_of f d.subscript; index = index_of f d.index; at = cell_in c d e h.1 k q; used-as = ap (λ (m : Meaning). use_by f m d) e }
    element-by (routine r) d e h k b q = never_true b
    element-by (function i) d e h k b q = never_true b

    element-of : (a : Operand) → SeenOperand a → R.cell_rules f a ≡ unbroken → Element a
    unfolding R.cell_rules R.place_rules
    element-of (number t) k q = absurd (some-none q)
    element-of (place d) k q =
        let b = rule-holds (is_cell (meaning_at f d.name)) Misfit d.name (quiet-left (rule (is_cell (meaning_at f d.name)) Misfit d.name) _ q) in
        element-by (meaning_at f d.name) d refl (small_at d.name) k b (quiet-right (rule (is_cell (meaning_at f d.name)) Misfit d.name) _ q)

    -- what stands in a parenthesis where no rule is broken
    abbrev pub Taken : Argument → Operand → Type 0
    Taken written_register a = Alone a × Free p (source_of f a)
    Taken read_register a = Alone a
    Taken byte_number a = Unit {0}
    Taken indexed_cell a = Element a
    Taken plain_cell a = Element a
    Taken surplus a = Unit {0}

    -- the text of the procedure around writes the register that an argument names
    abbrev pub Writing : Operand → Type 0
    Writing a = (r : ℕ) → r < 16 → operand_meaning f.found f.means a ≡ register r → (v : Within) → p.within ≡ some v → Writes v r

    written : (a : Operand) → R.only_register f a ≡ unbroken → R.written_rules f p.kept a ≡ unbroken → Writing a → Free p (source_of f a)
    unfolding R.only_register R.written_rules
    written (number t) o q w = absurd (some-none o)
    written (place d) o q w =
        let e = register-is d o in
        let r = register_of (meaning_at f d.name) in
        record { spared = spared-by r d.name (subst (λ (m : Meaning). R.target_by f m p.kept d.name ≡ unbroken) e q); counted = w r (register-at d.name) e }

    pub taken : (x : Argument) (a : Operand) → SeenOperand a → R.argument_rules f p.kept x a ≡ unbroken → (is_written x ≡ true → Writing a) → Taken x a
    unfolding R.argument_rules R.plain_rules
    taken written_register a k q w =
        let o = quiet-left (R.only_register f a) (R.written_rules f p.kept a) q in
        (alone a o, written a o (quiet-right (R.only_register f a) (R.written_rules f p.kept a) q) (w refl))
    taken read_register a k q w = alone a q
    taken byte_number a k q w = tt
    taken indexed_cell a k q w = element-of a k q
    taken plain_cell (number t) k q w = absurd (some-none q)
    taken plain_cell (place d) k q w = element-of (place d) k (quiet-left (R.cell_rules f (place d)) _ q)
    taken surplus a k q w = tt

    -- the arguments from position q on
    abbrev pub Given : Function → ℕ → List Operand → Type 0
    Given g q [] = Unit {0}
    Given g q (a ∷ xs) = Taken (argument_at g q) a × Given g (q + 1) xs

    -- a use of the function
    abbrev pub PlainUse : Function → Type 0
    PlainUse g = (a : Operand) (xs : List Operand) → Given g 0 (a ∷ xs) → All (Plain l p) (function_code f g a xs)

    if-plain : (b : Bool) (is : List Instruction) → All (Plain l p) is → All (Plain l p) (whether b then is else [])
    if-plain true is h = h
    if-plain false is h = tt

    with-one : (g : Function) → arity g ≡ 1 → ((a : Operand) → Taken (argument_at g 0) a → All (Plain l p) (function_on g 0 g.number (use_of f a))) → PlainUse g
    unfolding function_code
    with-one g e h a [] k = if-plain (eqb 1 (arity g)) _ (h a k.0)
    with-one g e h a (b ∷ []) k = rw e tt
    with-one g e h a (b ∷ c ∷ more) k = tt

    with_two : (g : Function) → arity g ≡ 2
        → ((a b : Operand) → Taken (argument_at g 0) a → Taken (argument_at g 1) b → All (Plain l p) (function_on g (source_of f a) (number_of f a) (use_of f b))) → PlainUse g
    unfolding function_code
    with_two g e h a [] k = rw e tt
    with_two g e h a (b ∷ []) k = if-plain (eqb 2 (arity g) && is_token a) _ (h a b k.0 k.1.0)
    with_two g e h a (b ∷ c ∷ more) k = tt

    on-element : (g : Function) (r v : ℕ) (b : Operand) → Element b → FormFits l p g.form g.op r → All (Plain l p) (function_on g r v (use_of f b))
    on-element g r v b k h =
        subst (λ (u : Use). All (Plain l p) (function_on g r v u)) (sym k.used-as) (plain_form l p g.form g.op r v k.c k.offset k.index k.at h, tt)

    on-register : (g : Function) (r v : ℕ) (b : Operand) → Alone b → AppliesShort g.op → Free p r → All (Plain l p) (function_on g r v (use_of f b))
    on-register g r v b k h y = subst (λ (u : Use). All (Plain l p) (function_on g r v u)) (sym k.used-as) (plain-short l p g.op r (source_of f b) h k.low y, tt)

    all_plain : All PlainUse function_table
    unfolding function_at
    all_plain = (ic, (stc, (la, (mvi, (cli, (set, (reset, (test, (ltr, tt)))))))))
      where
        ic : PlainUse (function_at 0)
        ic = with_two (function_at 0) refl (λ a b x y. on-element (function_at 0) (source_of f a) (number_of f a) b y (omega arith, inr ((Insert, refl), x.1)))

        stc : PlainUse (function_at 1)
        stc = with_two (function_at 1) refl (λ a b x y. on-element (function_at 1) (source_of f a) (number_of f a) b y (omega arith, inl refl))

        la : PlainUse (function_at 2)
        la = with_two (function_at 2) refl (λ a b x y. on-element (function_at 2) (source_of f a) (number_of f a) b y x.1)

        mvi : PlainUse (function_at 3)
        mvi = with_two (function_at 3) refl (λ a b x y. on-element (function_at 3) (source_of f a) (number_of f a) b y (omega arith, inl refl))

        cli : PlainUse (function_at 4)
        cli = with_two (function_at 4) refl (λ a b x y. on-element (function_at 4) (source_of f a) (number_of f a) b y (omega arith, inr refl))

        set : PlainUse (function_at 5)
        set = with-one (function_at 5) refl (λ a x. on-element (function_at 5) 0 255 a x (omega arith, inl refl))

        reset : PlainUse (function_at 6)
        reset = with-one (function_at 6) refl (λ a x. on-element (function_at 6) 0 0 a x (omega arith, inl refl))

        test : PlainUse (function_at 7)
        test = with-one (function_at 7) refl (λ a x. on-element (function_at 7) 0 255 a x (omega arith, inr refl))

        ltr : PlainUse (function_at 8)
        ltr = with_two (function_at 8) refl (λ a b x y. on-register (function_at 8) (source_of f a) (number_of f a) b y (omega arith, (Test, refl)) x.1)

    pub function-plain : (m : Meaning) → PlainUse (function_of m)
    unfolding function_code
    function-plain m = by-meaning PlainUse all_plain (λ a xs h. no_code a xs) m
      where
        no_code : (a : Operand) (xs : List Operand) → All (Plain l p) (function_code f F.no_function a xs)
        no_code a [] = tt
        no_code a (b ∷ []) = tt
        no_code a (b ∷ c ∷ more) = tt
