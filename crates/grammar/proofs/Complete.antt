-- Whatever the paper's grammar derives is read, as itself, if no token follows by which it could go on: each reader takes the way that the derivation's tokens show.
-- Assumes nothing.
use mathlib.Core.Path.{◌≡◌, refl, sym, subst, ◌∙◌}
use mathlib.Core.Logic.{◌⊎◌, inl, inr}
use mathlib.Core.List.{List, [], ◌∷◌}
use mathlib.Core.Bool.{Bool, true, false}
use mathlib.Core.Option.{Option, none, some}
use Prim.Native.Nat.{ℕ, zero, suc, ◌+◌, ◌≤◌, ◌<◌}
use native.Mathlib.Omega.{arith}
use lib.Dec.{eqb}
use lib.ListN.{get_or, length}
use Rattle.base.specs.Choose.{whether◌then◌else◌}
use Rattle.base.specs.Lists.{member}
use Rattle.base.proofs.Tests.{never_true}
use Rattle.token.specs.Kinds as K
use Rattle.grammar.specs.Tree.{Designator, Operand, number, place, Sign, plain, abs, neg, neg_abs, Term, Assignment, Condition, compared, bare, Width, full, short, byte, Register, Item, Declaration, registers, cells, base, Statement, assign, call, apply, block, goto, null, if_then, if_else, while, for, choose, Body, declare, procedure, items, Items, ended, label, item, Choices, over, choice}
use Rattle.grammar.specs.Reader.{Result, ok, Reader, and_then, look, next, want, want_one, give, refuse, ◌>>=◌, ◌>>◌}
use Rattle.grammar.specs.Grammar.{compounds, designator_of, operand, relations, condition, operators, terms, sign_of, assigned_to, assignment_of, numbers, cell_item, register_item, list_of, type_words, type_of, cells_of, after_type, declaration, arguments, target_of, assign_or, use_of, after_name, statement_of, items_of, choices_of, Procedure, declarators, body_of, if_of, construct_of, statement, procedure_of}
use Rattle.grammar.specs.Derives.{Part, ◌⟫◌, ◌▸◌, is_shape, is_designator, is_operand, is_condition, is_sign, are_terms, is_assignment, are_numbers, is_item, is_register, are_more, are_some, integer_or_logical, is_type, is_declaration, simple, are_arguments, is_statement, is_body, is_items, are_choices, is_block, is_program, nesting_of, body_nesting, items_nesting, choices_nesting}
use Rattle.grammar.proofs.Tests.{has, real, one_at, one-real, isnt-one, fails, inside, isnt}
use Rattle.grammar.proofs.Pinned.{pinned-designator}
use Rattle.grammar.proofs.Kept.{keep-operand, keep-item, keep-register, keep-declaration, keep_statement}

-- the reader of programs, with any room for constructs
abbrev pub program_in : ℕ → Reader Statement
program_in room = do
  k ← look
  whether eqb k K.BEGIN then (do b ← statement room; want K.AT; give b) else refuse 4

-- a designator behind its name, as a row of arguments
row_of : (subscript index : Option ℕ) → List Operand
row_of none none = []
row_of none (some x) = place (record { name = x; subscript = none; index = none }) ∷ []
row_of (some s) none = number s ∷ []
row_of (some s) (some x) = number s ∷ place (record { name = x; subscript = none; index = none }) ∷ []

row_target : (n : ℕ) (s x : Option ℕ) → target_of n (row_of s x) ≡ some (record { name = n; subscript = s; index = x })
unfolding row_of target_of
row_target n none none = refl
row_target n none (some x) = refl
row_target n (some s) none = refl
row_target n (some s) (some x) = refl

module _ (kinds : List ℕ) where
  -- ── "designator = name, name(number), name(name), name(number)(name). operand = number or designator." ──

  shape-name : (n : ℕ) (s x : Option ℕ) (i j : ℕ) → is_shape kinds n s x i j → get_or kinds i 0 ≡ K.NAME
  shape-name n none none i j h = h.1
  shape-name n none (some x) i j h = h.1
  shape-name n (some s) none i j h = h.1
  shape-name n (some s) (some x) i j h = h.1

  designator-name : (d : Designator) (i j : ℕ) → is_designator kinds d i j → get_or kinds i 0 ≡ K.NAME
  unfolding is_designator
  designator-name d i j h = shape-name d.name d.subscript d.index i j h

  complete-shape : (n : ℕ) (s x : Option ℕ) (i j : ℕ) → is_shape kinds n s x i j → has kinds j K.OPEN ≡ false → designator_of i kinds (i + 1) ≡ ok (record { name = n; subscript = s; index = x }) j
  unfolding designator_of look next and_then want want_one
  complete-shape n none none i j (e, h, q) f = rw (e, ← q, rw (← q) at f)
  complete-shape n none (some x) i j (e, h, (o, (y, z, (c, q)))) f = rw (e, y, ← q, o, z, c)
  complete-shape n (some s) none i j (e, h, (o, (y, z, (c, q)))) f = rw (e, y, ← q, o, z, c, rw (← q) at f)
  complete-shape n (some s) (some x) i j (e, h, (o, (y, z, (c, (p, (u, v, (d, q))))))) f = rw (e, y, u, ← q, o, z, c, p, p, v, d)

  pub complete-designator : (d : Designator) (i j : ℕ) → is_designator kinds d i j → has kinds j K.OPEN ≡ false → designator_of i kinds (i + 1) ≡ ok d j
  unfolding is_designator
  complete-designator d i j h f = complete-shape d.name d.subscript d.index i j h f

  complete-operand : (a : Operand) (i j : ℕ) → is_operand kinds a i j → has kinds j K.OPEN ≡ false → operand kinds i ≡ ok a j
  unfolding operand is_operand look and_then want_one
  complete-operand (number t) i j (e, h, q) f = rw (e, ← q, h)
  complete-operand (place d) i j h f = rw (designator-name d i j h, complete-designator d i j h f)

  operand-first : (a : Operand) (i j : ℕ) → is_operand kinds a i j → one_at kinds i (K.NUMBER ∷ K.NAME ∷ [])
  unfolding is_operand
  operand-first (number t) i j (e, h, q) = rw h
  operand-first (place d) i j h = rw (designator-name d i j h)

  -- ── "condition = name relation operand, a bare relation, or OVERFLOW." ──

  complete-condition : (c : Condition) (i j : ℕ) → is_condition kinds c i j → has kinds j K.OPEN ≡ false → condition kinds i ≡ ok c j
  unfolding condition is_condition look and_then want_one
  complete-condition (compared n r a) i j (e, h, (y, z, k)) f = rw (e, y, h, z, complete-operand a _ j k f)
  complete-condition (bare r) i j (e, z, q) f =
      rw (e, ← q, isnt-one kinds i (K.OVERFLOW ∷ relations) K.NAME z refl, z)

  -- ── "assignment = designator := [ABS, NEG or NEG ABS] operand {operator operand}." ──

  complete-sign : (s : Sign) (i j : ℕ) → is_sign kinds s i j → one_at kinds j (K.NUMBER ∷ K.NAME ∷ []) → sign_of kinds i ≡ ok s j
  unfolding sign_of is_sign look next and_then
  complete-sign plain i j q f = rw (q, isnt-one kinds j (K.NUMBER ∷ K.NAME ∷ []) K.ABS f refl, isnt-one kinds j (K.NUMBER ∷ K.NAME ∷ []) K.NEG f refl)
  complete-sign (abs t) i j (e, h, q) f = rw (e, ← q, h)
  complete-sign (neg t) i j (e, h, q) f = rw (e, h, q, isnt-one kinds j (K.NUMBER ∷ K.NAME ∷ []) K.ABS f refl)
  complete-sign (neg_abs t) i j (e, h, (a, q)) f = rw (e, ← q, h, a)

  -- what follows an assignment's target
  abbrev Assigned : Assignment → Part
  Assigned a = ◌▸◌ kinds K.BECOMES (is_sign kinds a.sign ⟫ is_operand kinds a.first ⟫ are_terms kinds a.rest)

  -- what follows an operand or an assignment does not go on with it
  terms-first : (ts : List Term) (i j : ℕ) → are_terms kinds ts i j → has kinds j K.OPEN ≡ false → has kinds i K.OPEN ≡ false
  unfolding are_terms
  terms-first [] i j q f = rw q f
  terms-first (t ∷ ts) i j (e, z, r) f = isnt-one kinds i operators K.OPEN z refl

  complete-terms : (ts : List Term) (fuel i j : ℕ) → are_terms kinds ts i j → length kinds < fuel + i → has kinds j K.OPEN ≡ false
      → member (get_or kinds j 0) operators ≡ false → terms fuel kinds i ≡ ok ts j
  unfolding terms are_terms look next and_then
  complete-terms [] zero i j q n f o = rw q
  complete-terms [] (suc fuel) i j q n f o = rw (q, o)
  complete-terms (t ∷ ts) zero i j (e, z, r) n f o = absurd (let l = one-real kinds i operators refl z in omega arith)
  complete-terms (t ∷ ts) (suc fuel) i j (e, z, (m, h, hs)) n f o =
      let le = (keep-operand {kinds = kinds} {others = kinds} t.operand).rises h in
      rw (z, complete-operand t.operand (i + 1) m h (terms-first ts m j hs f), complete-terms ts fuel m j hs (omega arith) f o, ← e)

  complete-assigned : (a : Assignment) (i j : ℕ) → Assigned a i j → has kinds j K.OPEN ≡ false → member (get_or kinds j 0) operators ≡ false → assigned_to a.target kinds i ≡ ok a j
  unfolding assigned_to and_then want
  complete-assigned a i j (b, (n, hs, (p, ho, ht))) f o =
      rw (
        b,
        complete-sign a.sign (i + 1) n hs (operand-first a.first n p ho),
        complete-operand a.first n p ho (terms-first a.rest p j ht f),
        complete-terms a.rest (suc (length kinds)) p j ht (omega arith) f o,
      )

  complete-assignment : (a : Assignment) (i j : ℕ) → is_assignment kinds a i j → has kinds j K.OPEN ≡ false → member (get_or kinds j 0) operators ≡ false → assignment_of i kinds (i + 1) ≡ ok a j
  unfolding assignment_of is_assignment and_then
  complete-assignment a i j (m, h, r) f o = rw (complete-designator a.target i m h (isnt kinds m K.OPEN r.0 refl), complete-assigned a m j r f o)

  -- ── "declaration = (INTEGER or LOGICAL) REGISTER name(number) {, name(number)}; or [ARRAY (number)] type item {, item}; or … SEGMENT BASE name. type =
  -- INTEGER, LOGICAL or SHORT INTEGER; item = name {(number)}." ──

  complete-numbers : (ts : List ℕ) (fuel i j : ℕ) → are_numbers kinds ts i j → length kinds < fuel + i → has kinds j K.OPEN ≡ false → numbers fuel kinds i ≡ ok ts j
  unfolding numbers are_numbers look and_then want
  complete-numbers [] zero i j q n f = rw q
  complete-numbers [] (suc fuel) i j q n f = rw (q, f)
  complete-numbers (t ∷ ts) zero i j (o, r) n f = absurd (let l = real kinds i K.OPEN (omega arith) o in omega arith)
  complete-numbers (t ∷ ts) (suc fuel) i j (o, (e, h, (c, hs))) n f = rw (e, o, o, h, c, complete-numbers ts fuel _ j hs (omega arith) f)

  complete-item : (x : Item) (i j : ℕ) → is_item kinds x i j → has kinds j K.OPEN ≡ false → cell_item kinds i ≡ ok x j
  unfolding cell_item is_item and_then want
  complete-item x i j (e, h, hs) f = rw (h, complete-numbers x.numbers (suc (length kinds)) (i + 1) j hs (omega arith) f, ← e)

  complete-register : (r : Register) (i j : ℕ) → is_register kinds r i j → has kinds j K.OPEN ≡ false → register_item kinds i ≡ ok r j
  unfolding register_item is_register and_then want
  complete-register r i j (e, h, (o, (y, z, (c, q)))) f = rw (h, o, z, c, q, ← y, ← e)

  module _ {A : Type 0} (is : A → Part) (read : Reader A) (rises : (x : A) (i j : ℕ) → is x i j → i ≤ j) (complete : (x : A) (i j : ℕ) → is x i j
      → has kinds j K.OPEN ≡ false → read kinds i ≡ ok x j) where
    complete-list : (xs : List A) (fuel i j : ℕ) → are_some kinds is xs i j → length kinds < suc fuel + i → has kinds j K.OPEN ≡ false
        → has kinds j K.COMMA ≡ false → list_of read (suc fuel) kinds i ≡ ok xs j
    unfolding list_of are_some are_more look next and_then
    complete-list [] fuel i j h n f c = absurd h
    complete-list (x ∷ []) fuel i j (m, h, q) n f c = rw (complete x i m h (rw q f), q, c)
    complete-list (x ∷ (y ∷ ys)) zero i j (m, h, (k, r)) n f c = absurd (let l = real kinds m K.COMMA (omega arith) k in let le = rises x i m h in omega arith)
    complete-list (x ∷ (y ∷ ys)) (suc fuel) i j (m, h, (k, r)) n f c =
        let le = rises x i m h in
        rw (complete x i m h (isnt kinds m K.OPEN k refl), k, complete-list (y ∷ ys) fuel (m + 1) j r (omega arith) f c)

  complete-cells : (xs : List Item) (i j : ℕ) → are_some kinds (is_item kinds) xs i j → get_or kinds j 0 ≡ K.SEMICOLON → list_of cell_item (suc (length kinds)) kinds i ≡ ok xs j
  complete-cells xs i j h s = complete-list (is_item kinds) cell_item (λ x i j. (keep-item {kinds = kinds} {others = kinds} x).rises) complete-item xs
      (length kinds) i j h (omega arith) (isnt kinds j K.OPEN s refl) (isnt kinds j K.COMMA s refl)

  complete-registers : (rs : List Register) (i j : ℕ) → are_some kinds (is_register kinds) rs i j → get_or kinds j 0 ≡ K.SEMICOLON → list_of register_item (suc (length kinds)) kinds i ≡ ok rs j
  complete-registers rs i j h s = complete-list (is_register kinds) register_item (λ x i j.
      (keep-register {kinds = kinds} {others = kinds} x).rises) complete-register rs (length kinds) i j h (omega arith) (isnt kinds j K.OPEN s refl)
      (isnt kinds j K.COMMA s refl)

  complete-type : (w : Width) (i j : ℕ) → is_type kinds w i j → type_of kinds i ≡ ok w j
  unfolding type_of is_type look and_then want want_one
  complete-type full i j (z, q) =
      rw (
        inside kinds i integer_or_logical type_words z refl,
        isnt-one kinds i integer_or_logical K.SHORT z refl,
        isnt-one kinds i integer_or_logical K.BYTE z refl,
        isnt-one kinds i integer_or_logical K.CHARACTER z refl,
        q,
      )
  complete-type short i j (s, (t, q)) = rw (s, t, q)
  complete-type (byte false) i j (s, q) = rw (s, q)
  complete-type (byte true) i j (s, q) = rw (s, q)

  type-first : (w : Width) (i j : ℕ) → is_type kinds w i j → one_at kinds i type_words
  unfolding is_type
  type-first full i j (z, q) = inside kinds i integer_or_logical type_words z refl
  type-first short i j (s, r) = rw s
  type-first (byte false) i j (s, q) = rw s
  type-first (byte true) i j (s, q) = rw s

  list-first : (xs : List Item) (i j : ℕ) → are_some kinds (is_item kinds) xs i j → get_or kinds i 0 ≡ K.NAME
  unfolding are_some is_item
  list-first [] i j h = absurd h
  list-first (x ∷ xs) i j (m, (e, h, r), r') = h

  complete-after-type : (w : Width) (xs : List Item) (i j : ℕ) → are_some kinds (is_item kinds) xs i j → get_or kinds j 0 ≡ K.SEMICOLON → after_type w kinds i ≡ ok (cells none w xs) j
  unfolding after_type cells_of look and_then
  complete-after-type full xs i j h s = rw (list-first xs i j h, complete-cells xs i j h s)
  complete-after-type short xs i j h s = rw (complete-cells xs i j h s)
  complete-after-type (byte c) xs i j h s = rw (complete-cells xs i j h s)

  complete-declaration : (d : Declaration) (i j : ℕ) → is_declaration kinds d i j → get_or kinds j 0 ≡ K.SEMICOLON → declaration kinds i ≡ ok d j
  unfolding declaration is_declaration is_type after_type cells_of look next and_then want
  complete-declaration (registers rs) i j (z, (r, hs)) s =
      rw (isnt-one kinds i integer_or_logical K.SEGMENT z refl, isnt-one kinds i integer_or_logical K.ARRAY z refl, complete-type full i (i + 1) (z, refl), r, complete-registers rs (i + 1 + 1) j hs s)
  complete-declaration (cells none w xs) i j (m, h, hs) s =
      rw (
        isnt-one kinds i type_words K.SEGMENT (type-first w i m h) refl,
        isnt-one kinds i type_words K.ARRAY (type-first w i m h) refl,
        complete-type w i m h,
        complete-after-type w xs m j hs s,
      )
  complete-declaration (cells (some c) w xs) i j (a, (o, (e, n, (p, (m, h, hs))))) s = rw (a, o, n, p, complete-type w _ m h, e, complete-cells xs m j hs s)
  complete-declaration (base n) i j (a, (b, (e, h, q))) s = rw (a, b, h, e, q)

  -- ── "simple = assignment, name (a call), block, GOTO name, NULL." ──

  -- what may follow a statement: "statement ;", "simple ELSE", "block @"
  abbrev stops : List ℕ
  stops = K.SEMICOLON ∷ K.AT ∷ K.ELSE ∷ []

  abbrev not_named : List ℕ
  not_named = K.BEGIN ∷ K.IF ∷ K.WHILE ∷ K.CASE ∷ K.FOR ∷ K.GOTO ∷ K.NULL ∷ []

  assignment-name : (a : Assignment) (i j : ℕ) → is_assignment kinds a i j → get_or kinds i 0 ≡ K.NAME
  unfolding is_assignment
  assignment-name a i j (m, h, r) = designator-name a.target i m h

  -- ── a row of arguments, which every designator is behind its name ──

  complete-arguments : (xs : List Operand) (fuel i j : ℕ) → are_arguments kinds xs i j → length kinds < fuel + i → has kinds j K.OPEN ≡ false → arguments fuel kinds i ≡ ok xs j
  unfolding arguments are_arguments look next and_then want
  complete-arguments [] zero i j q n f = rw q
  complete-arguments [] (suc fuel) i j q n f = rw (q, f)
  complete-arguments (a ∷ xs) zero i j (o, r) n f = absurd (let l = real kinds i K.OPEN (omega arith) o in omega arith)
  complete-arguments (a ∷ xs) (suc fuel) i j (o, (m, h, (c, hs))) n f =
      let le = (keep-operand {kinds = kinds} {others = kinds} a).rises h in
      rw (o, complete-operand a (i + 1) m h (isnt kinds m K.OPEN c refl), c, complete-arguments xs fuel (m + 1) j hs (omega arith) f)

  shape_row : (n : ℕ) (s x : Option ℕ) (i j : ℕ) → is_shape kinds n s x i j → are_arguments kinds (row_of s x) (i + 1) j
  unfolding row_of are_arguments is_operand is_designator
  shape_row n none none i j (e, h, q) = q
  shape_row n none (some x) i j (e, h, (o, (y, z, (c, q)))) = (o, (i + 1 + 1 + 1, (y, z, refl), (c, q)))
  shape_row n (some s) none i j (e, h, (o, (y, z, (c, q)))) = (o, (i + 1 + 1 + 1, (y, z, refl), (c, q)))
  shape_row n (some s) (some x) i j (e, h, (o, (y, z, (c, (p, (u, v, (d, q))))))) =
      (o, (i + 1 + 1 + 1, (y, z, refl), (c, (p, (i + 1 + 1 + 1 + 1 + 1 + 1, (u, v, refl), (d, q))))))

  assignment-second : (a : Assignment) (i j : ℕ) → is_assignment kinds a i j → one_at kinds (i + 1) (K.BECOMES ∷ K.OPEN ∷ [])
  unfolding is_assignment is_designator
  assignment-second a i j (m, h, (b, r)) = go a.target.name a.target.subscript a.target.index h
    where
      go : (n : ℕ) (s x : Option ℕ) → is_shape kinds n s x i m → one_at kinds (i + 1) (K.BECOMES ∷ K.OPEN ∷ [])
      go n none none (e, h, q) = rw (q, b)
      go n none (some x) (e, h, (o, r)) = rw o
      go n (some s) none (e, h, (o, r)) = rw o
      go n (some s) (some x) (e, h, (o, r)) = rw o

  -- a designator with `:=` behind it is a target
  pub name-target : (d : Designator) (i m : ℕ) → is_designator kinds d i m → get_or kinds m 0 ≡ K.BECOMES
      → after_name i kinds (i + 1) ≡ and_then (assigned_to d kinds m) (λ a j. ok (assign a) j)
  unfolding after_name assign_or is_designator look and_then
  name-target d i m h b =
      rw (
        complete-arguments (row_of d.subscript d.index) (suc (length kinds)) (i + 1) m (shape_row d.name d.subscript d.index i m h) (omega arith) (isnt kinds m K.OPEN b refl),
        b,
        ← (pinned-designator kinds d i m h).0,
        row_target d.name d.subscript d.index,
      )

  complete-assign : (a : Assignment) (i j : ℕ) → is_assignment kinds a i j → one_at kinds j stops → after_name i kinds (i + 1) ≡ ok (assign a) j
  unfolding is_assignment and_then
  complete-assign a i j (m, h, r) f =
      rw (
        name-target a.target i m h r.0,
        complete-assigned a m j r (isnt-one kinds j stops K.OPEN f refl) (fails kinds j (λ k. member k operators) stops f refl),
      )

  -- a call or a use
  complete-use : (xs : List Operand) (i j : ℕ) → are_arguments kinds xs (i + 1) j → one_at kinds j stops → after_name i kinds (i + 1) ≡ ok (use_of i xs) j
  unfolding after_name look and_then
  complete-use xs i j h f =
      rw (complete-arguments xs (suc (length kinds)) (i + 1) j h (omega arith) (isnt-one kinds j stops K.OPEN f refl), isnt-one kinds j stops K.BECOMES f refl)

  complete-call : (i : ℕ) → one_at kinds (i + 1) stops → after_name i kinds (i + 1) ≡ ok (call i) (i + 1)
  unfolding are_arguments
  complete-call i f = complete-use [] i (i + 1) refl f

  arguments-open : (a : Operand) (xs : List Operand) (i j : ℕ) → are_arguments kinds (a ∷ xs) i j → get_or kinds i 0 ≡ K.OPEN
  unfolding are_arguments
  arguments-open a xs i j h = h.0

  -- a statement that begins with a name is read from after it, and no colon follows; another begins with a word
  Named : Statement → Part
  Named s i j = (get_or kinds i 0 ≡ K.NAME) × (has kinds (i + 1) K.COLON ≡ false) × (after_name i kinds (i + 1) ≡ ok s j)

  statement-first : (s : Statement) (i j : ℕ) → is_statement kinds s i j → one_at kinds j stops → Named s i j ⊎ one_at kinds i not_named
  unfolding is_statement Named
  statement-first (assign a) i j h f = inl (assignment-name a i j h, isnt-one kinds (i + 1) (K.BECOMES ∷ K.OPEN ∷ []) K.COLON (assignment-second a i j h) refl, complete-assign a i j h f)
  statement-first (call n) i j (e, h, q) f = let g = rw (← q) at f in inl (h, isnt-one kinds (i + 1) stops K.COLON g refl, rw (e, ← q, complete-call i g))
  statement-first (apply n a xs) i j (e, h, hs) f = inl (h, isnt kinds (i + 1) K.COLON (arguments-open a xs (i + 1) j hs) refl, rw (e, complete-use (a ∷ xs) i j hs f))
  statement-first (block t b) i j h f = inr (rw h.1)
  statement-first (goto t n) i j h f = inr (rw h.1)
  statement-first null i j h f = inr (rw h.0)
  statement-first (if_then t c s) i j h f = inr (rw h.1)
  statement-first (if_else t c s e u) i j h f = inr (rw h.1)
  statement-first (while t c s) i j h f = inr (rw h.1)
  statement-first (for t a v l s) i j h f = inr (rw h.1)
  statement-first (choose t n xs) i j h f = inr (rw h.1)

  simple-first : (s : Statement) (i j : ℕ) → is_statement kinds s i j → simple s ≡ true → member (get_or kinds i 0) compounds ≡ false
  unfolding is_statement
  simple-first (assign a) i j h e = rw (assignment-name a i j h)
  simple-first (call n) i j h e = rw h.1
  simple-first (apply n a xs) i j h e = rw h.1
  simple-first (block t b) i j h e = rw h.1
  simple-first (goto t n) i j h e = rw h.1
  simple-first null i j h e = rw h.0
  simple-first (if_then t c s) i j h e = never_true e
  simple-first (if_else t c s d u) i j h e = never_true e
  simple-first (while t c s) i j h e = never_true e
  simple-first (for t a v l s) i j h e = never_true e
  simple-first (choose t n xs) i j h e = rw h.1

  -- ── each way of a reader, by what it meets ──

  name-step : (c : Reader Statement) (s : Statement) (i j : ℕ) → get_or kinds i 0 ≡ K.NAME → after_name i kinds (i + 1) ≡ ok s j → statement_of c kinds i ≡ ok s j
  unfolding statement_of look next and_then
  name-step c s i j h e = rw (h, e)

  goto-step : (c : Reader Statement) (i : ℕ) → get_or kinds i 0 ≡ K.GOTO → get_or kinds (i + 1) 0 ≡ K.NAME → statement_of c kinds i ≡ ok (goto i (i + 1)) (i + 1 + 1)
  unfolding statement_of look next and_then want
  goto-step c i h n = rw (h, n)

  null-step : (c : Reader Statement) (i : ℕ) → get_or kinds i 0 ≡ K.NULL → statement_of c kinds i ≡ ok null (i + 1)
  unfolding statement_of look next and_then
  null-step c i h = rw h

  -- whatever room there is, a statement that opens no construct is read
  in-any-room : (room i : ℕ) (r : Result Statement) → ((c : Reader Statement) → statement_of c kinds i ≡ r) → statement room kinds i ≡ r
  unfolding statement
  in-any-room zero i r f = f _
  in-any-room (suc room) i r f = f _

  module _ (inner : Reader Statement) (proc : Reader Procedure) where
    block-step : (i j : ℕ) (b : Body) → get_or kinds i 0 ≡ K.BEGIN → body_of inner proc (suc (length kinds)) kinds (i + 1) ≡ ok b j → statement_of (construct_of inner proc) kinds i ≡ ok (block i b) j
    unfolding statement_of construct_of look next and_then
    block-step i j b h e = rw (h, h, e)

    if-then-step : (i m j : ℕ) (c : Condition) (s : Statement) → get_or kinds i 0 ≡ K.IF → condition kinds (i + 1) ≡ ok c m → get_or kinds m 0 ≡ K.THEN
        → inner kinds (m + 1) ≡ ok s j → has kinds j K.ELSE ≡ false → statement_of (construct_of inner proc) kinds i ≡ ok (if_then i c s) j
    unfolding statement_of construct_of if_of look next and_then want
    if-then-step i m j c s h e t k n = rw (h, h, e, t, k, n)

    if-else-step : (i m n j : ℕ) (c : Condition) (s u : Statement) → get_or kinds i 0 ≡ K.IF → condition kinds (i + 1) ≡ ok c m → get_or kinds m 0 ≡ K.THEN
        → inner kinds (m + 1) ≡ ok s n → member (get_or kinds (m + 1) 0) compounds ≡ false → get_or kinds n 0 ≡ K.ELSE → inner kinds (n + 1) ≡ ok u j
        → statement_of (construct_of inner proc) kinds i ≡ ok (if_else i c s n u) j
    unfolding statement_of construct_of if_of look next and_then want
    if-else-step i m n j c s u h e t k f l v = rw (h, h, e, t, k, f, l, v)

    while-step : (i m j : ℕ) (c : Condition) (s : Statement) → get_or kinds i 0 ≡ K.WHILE → condition kinds (i + 1) ≡ ok c m → get_or kinds m 0 ≡ K.DO
        → inner kinds (m + 1) ≡ ok s j → statement_of (construct_of inner proc) kinds i ≡ ok (while i c s) j
    unfolding statement_of construct_of look next and_then want
    while-step i m j c s h e t k = rw (h, h, e, t, k)

    for-step : (i m n j : ℕ) (a : Assignment) (l : Operand) (s : Statement) → get_or kinds i 0 ≡ K.FOR → get_or kinds (i + 1) 0 ≡ K.NAME
        → assignment_of (i + 1) kinds (i + 1 + 1) ≡ ok a m → get_or kinds m 0 ≡ K.STEP → get_or kinds (m + 1) 0 ≡ K.NUMBER → get_or kinds (m + 1 + 1) 0 ≡ K.UNTIL
        → operand kinds (m + 1 + 1 + 1) ≡ ok l n → get_or kinds n 0 ≡ K.DO → inner kinds (n + 1) ≡ ok s j
        → statement_of (construct_of inner proc) kinds i ≡ ok (for i a (m + 1) l s) j
    unfolding statement_of construct_of look next and_then want
    for-step i m n j a l s h e p q r t u v w = rw (h, h, e, p, q, r, t, u, v, w)

    case_step : (i j : ℕ) (xs : Choices) → get_or kinds i 0 ≡ K.CASE → get_or kinds (i + 1) 0 ≡ K.NAME → get_or kinds (i + 1 + 1) 0 ≡ K.OF
        → get_or kinds (i + 1 + 1 + 1) 0 ≡ K.BEGIN → choices_of inner (suc (length kinds)) kinds (i + 1 + 1 + 1 + 1) ≡ ok xs j
        → statement_of (construct_of inner proc) kinds i ≡ ok (choose i (i + 1) xs) j
    unfolding statement_of construct_of look next and_then want
    case_step i j xs h n o b e = rw (h, h, n, o, b, e)

    over-step : (fuel i : ℕ) → get_or kinds i 0 ≡ K.END → choices_of inner (suc fuel) kinds i ≡ ok over (i + 1)
    unfolding choices_of look next and_then
    over-step fuel i h = rw h

    choice-step : (fuel i m j : ℕ) (s : Statement) (xs : Choices) → has kinds i K.END ≡ false → inner kinds i ≡ ok s m → get_or kinds m 0 ≡ K.SEMICOLON
        → choices_of inner fuel kinds (m + 1) ≡ ok xs j → choices_of inner (suc fuel) kinds i ≡ ok (choice s xs) j
    unfolding choices_of look next and_then want
    choice-step fuel i m j s xs h k p r = rw (h, k, p, r)

    ended-step : (fuel i : ℕ) → get_or kinds i 0 ≡ K.END → items_of inner (suc fuel) kinds i ≡ ok ended (i + 1)
    unfolding items_of look next and_then
    ended-step fuel i h = rw h

    label-step : (fuel i j : ℕ) (xs : Items) → get_or kinds i 0 ≡ K.NAME → get_or kinds (i + 1) 0 ≡ K.COLON → items_of inner fuel kinds (i + 1 + 1) ≡ ok xs j
        → items_of inner (suc fuel) kinds i ≡ ok (label i xs) j
    unfolding items_of look next and_then
    label-step fuel i j xs h c e = rw (h, c, e)

    item-step : (fuel i m j : ℕ) (s : Statement) (xs : Items) → Named s i m ⊎ one_at kinds i not_named → inner kinds i ≡ ok s m → get_or kinds m 0 ≡ K.SEMICOLON
        → items_of inner fuel kinds (m + 1) ≡ ok xs j → items_of inner (suc fuel) kinds i ≡ ok (item s xs) j
    unfolding items_of Named look next and_then want
    item-step fuel i m j s xs (inl (h, c, e)) k p r = rw (h, c, e, p, r)
    item-step fuel i m j s xs (inr h) k p r = rw (isnt-one kinds i not_named K.END h refl, isnt-one kinds i not_named K.NAME h refl, k, p, r)

    declare-step : (fuel i m j : ℕ) (d : Declaration) (b : Body) → one_at kinds i declarators → declaration kinds i ≡ ok d m → get_or kinds m 0 ≡ K.SEMICOLON
        → body_of inner proc fuel kinds (m + 1) ≡ ok b j → body_of inner proc (suc fuel) kinds i ≡ ok (declare d b) j
    unfolding body_of look next and_then want
    declare-step fuel i m j d b h e s r = rw (h, e, s, r)

    procedure-step : (fuel i m j : ℕ) (p : Procedure) (b : Body) → get_or kinds i 0 ≡ K.PROCEDURE → proc kinds i ≡ ok p m → get_or kinds m 0 ≡ K.SEMICOLON
        → body_of inner proc fuel kinds (m + 1) ≡ ok b j → body_of inner proc (suc fuel) kinds i ≡ ok (procedure p.name p.return p.body b) j
    unfolding body_of look next and_then want
    procedure-step fuel i m j p b h e s r = rw (h, e, s, r)

    items-step : (fuel i j : ℕ) (xs : Items) → one_at kinds i (K.END ∷ K.NAME ∷ not_named) → items_of inner (suc (length kinds)) kinds i ≡ ok xs j → body_of inner proc (suc fuel) kinds i ≡ ok (items xs) j
    unfolding body_of look next and_then
    items-step fuel i j xs h e = rw (fails kinds i (λ k. member k declarators) (K.END ∷ K.NAME ∷ not_named) h refl, isnt-one kinds i (K.END ∷ K.NAME ∷ not_named) K.PROCEDURE h refl, e)

  procedure-of-step : (room i m : ℕ) (s : Statement) → get_or kinds (i + 1) 0 ≡ K.NAME → get_or kinds (i + 1 + 1) 0 ≡ K.OPEN → get_or kinds (i + 1 + 1 + 1) 0 ≡ K.NAME
      → get_or kinds (i + 1 + 1 + 1 + 1) 0 ≡ K.CLOSE → get_or kinds (i + 1 + 1 + 1 + 1 + 1) 0 ≡ K.SEMICOLON
      → statement room kinds (i + 1 + 1 + 1 + 1 + 1 + 1) ≡ ok s m
      → procedure_of (suc room) kinds i ≡ ok (record { name = i + 1; return = i + 1 + 1 + 1; body = s }) m
  unfolding statement next and_then want
  procedure-of-step room i m s n o r c d e = rw (n, o, r, c, d, e)

  declaration-first : (d : Declaration) (i j : ℕ) → is_declaration kinds d i j → one_at kinds i declarators
  unfolding is_declaration
  declaration-first (registers rs) i j (z, r) = inside kinds i integer_or_logical declarators z refl
  declaration-first (cells none w xs) i j (m, h, r) = inside kinds i type_words declarators (type-first w i m h) refl
  declaration-first (cells (some c) w xs) i j (a, r) = rw a
  declaration-first (base n) i j (a, r) = rw a

  stop-semicolon : (j : ℕ) → get_or kinds j 0 ≡ K.SEMICOLON → one_at kinds j stops
  stop-semicolon j h = rw h

  stop-else : (j : ℕ) → get_or kinds j 0 ≡ K.ELSE → one_at kinds j stops
  stop-else j h = rw h

  no-else : (j : ℕ) {k : ℕ} (s : Statement) → get_or kinds j 0 ≡ k → eqb k K.ELSE ≡ false → has kinds j K.ELSE ≡ true → simple s ≡ true
  no-else j s h e t = never_true (sym e ∙ (rw h at t))

  -- where nothing that is not simple may be followed by ELSE, none follows
  not-false-else : (t : Bool) → (t ≡ true → false ≡ true) → t ≡ false
  not-false-else true f = sym (f refl)
  not-false-else false f = refl

  -- the word or name with which a statement begins
  statement-begin : (s : Statement) (i j : ℕ) → is_statement kinds s i j → one_at kinds j stops → one_at kinds i (K.NAME ∷ not_named)
  unfolding Named
  statement-begin s i j h f = go (statement-first s i j h f)
    where
      go : Named s i j ⊎ one_at kinds i not_named → one_at kinds i (K.NAME ∷ not_named)
      go (inl (n, c, e)) = rw n
      go (inr n) = inside kinds i not_named (K.NAME ∷ not_named) n refl

  items-first : (xs : Items) (i j : ℕ) → is_items kinds xs i j → one_at kinds i (K.END ∷ K.NAME ∷ not_named)
  unfolding is_statement Named
  items-first ended i j (h, r) = rw h
  items-first (label n xs) i j (e, h, r) = rw h
  items-first (item s xs) i j (m, h, (c, r)) = inside kinds i (K.NAME ∷ not_named) (K.END ∷ K.NAME ∷ not_named) (statement-begin s i m h (stop-semicolon m c)) refl

  body-real : (b : Body) (i j : ℕ) → is_body kinds b i j → i < length kinds
  unfolding is_statement
  body-real (declare d b) i j (m, h, r) = one-real kinds i declarators refl (declaration-first d i m h)
  body-real (procedure n r s b) i j (m, (h, q), q') = real kinds i K.PROCEDURE (omega arith) h
  body-real (items xs) i j h = one-real kinds i (K.END ∷ K.NAME ∷ not_named) refl (items-first xs i j h)

  items-real : (xs : Items) (i j : ℕ) → is_items kinds xs i j → i < length kinds
  items-real xs i j h = one-real kinds i (K.END ∷ K.NAME ∷ not_named) refl (items-first xs i j h)

  choices-real : (xs : Choices) (i j : ℕ) → are_choices kinds xs i j → i < length kinds
  unfolding is_statement
  choices-real over i j (h, r) = real kinds i K.END (omega arith) h
  choices-real (choice s xs) i j (m, h, (c, r)) = one-real kinds i (K.NAME ∷ not_named) refl (statement-begin s i m h (stop-semicolon m c))

  mutual
    unfolding statement is_statement nesting_of

    complete-statement : (x : Statement) (room i j : ℕ) → is_statement kinds x i j → nesting_of x ≤ room → one_at kinds j stops
        → (has kinds j K.ELSE ≡ true → simple x ≡ true) → statement room kinds i ≡ ok x j
    complete-statement (assign a) room i j h n f g = in-any-room room i _ (λ c. name-step c _ i j (assignment-name a i j h) (complete-assign a i j h f))
    complete-statement (call t) room i j (e, h, q) n f g = rw (e, ← q, in-any-room room i _ (λ c. name-step c _ i (i + 1) h (complete-call i (rw (← q) at f))))
    complete-statement (apply t a xs) room i j (e, h, hs) n f g = rw (e, in-any-room room i _ (λ c. name-step c _ i j h (complete-use (a ∷ xs) i j hs f)))
    complete-statement (goto t l) room i j (e, h, (y, z, q)) n f g = rw (e, y, ← q, in-any-room room i _ (λ c. goto-step c i h z))
    complete-statement null room i j (h, q) n f g = rw (← q, in-any-room room i _ (λ c. null-step c i h))
    complete-statement (block t b) zero i j h n f g = absurd (omega arith)
    complete-statement (block t b) (suc room) i j (e, h, r) n f g = rw e (block-step _ _ i j b h (complete-body b room (suc (length kinds)) (i + 1) j r (omega arith) (omega arith)))
    complete-statement (if_then t c s) zero i j h n f g = absurd (omega arith)
    complete-statement (if_then t c s) (suc room) i j (e, h, (m, k, (d, r))) n f g =
        rw e (if-then-step _ _ i m j c s h (complete-condition c (i + 1) m k (isnt kinds m K.OPEN d refl)) d
        (complete-statement s room (m + 1) j r (omega arith) f (λ z. never_true (g z))) (not-false-else (has kinds j K.ELSE) g))
    complete-statement (if_else t c s x u) zero i j h n f g = absurd (omega arith)
    complete-statement (if_else t c s x u) (suc room) i j (e, h, (m, k, (d, (p, (y, r), (w, l, v))))) n f g =
        rw (e, w) (if-else-step _ _ i m p j c s u h (complete-condition c (i + 1) m k (isnt kinds m K.OPEN d refl)) d
        (complete-statement s room (m + 1) p r (omega arith) (stop-else p l) (λ z. y)) (simple-first s (m + 1) p r y) l
        (complete-statement u room (p + 1) j v (omega arith) f (λ z. never_true (g z))))
    complete-statement (while t c s) zero i j h n f g = absurd (omega arith)
    complete-statement (while t c s) (suc room) i j (e, h, (m, k, (d, r))) n f g =
        rw e (while-step _ _ i m j c s h (complete-condition c (i + 1) m k (isnt kinds m K.OPEN d refl)) d (complete-statement s room (m + 1) j r (omega arith) f (λ z. never_true (g z))))
    complete-statement (for t a v l s) zero i j h n f g = absurd (omega arith)
    complete-statement (for t a v l s) (suc room) i j (e, h, (m, k, (x, (y, z, (u, (p, o, (d, r))))))) n f g =
        rw (e, y) (for-step _ _ i m p j a l s h (assignment-name a (i + 1) m k)
        (complete-assignment a (i + 1) m k (isnt kinds m K.OPEN x refl) (rw x refl)) x z u (complete-operand l _ p o (isnt kinds p K.OPEN d refl)) d
        (complete-statement s room (p + 1) j r (omega arith) f (λ z. never_true (g z))))
    complete-statement (choose t a xs) zero i j h n f g = absurd (omega arith)
    complete-statement (choose t a xs) (suc room) i j (e, h, (y, z, (o, (b, r)))) n f g =
        rw (e, y) (case_step _ (procedure_of room) i j xs h z o b (complete-choices xs room (suc (length kinds)) (i + 1 + 1 + 1 + 1) j r (omega arith) (omega arith)))

    complete-body : (b : Body) (room fuel i j : ℕ) → is_body kinds b i j → body_nesting b ≤ room → length kinds < fuel + i → body_of (statement room) (procedure_of room) fuel kinds i ≡ ok b j
    complete-body (declare d b) room zero i j h n l = absurd (let r = body-real (declare d b) i j h in omega arith)
    complete-body (declare d b) room (suc fuel) i j (m, h, (c, r)) n l =
        let le = (keep-declaration {kinds = kinds} {others = kinds} d).rises h in
        declare-step _ _ fuel i m j d b (declaration-first d i m h) (complete-declaration d i m h c) c (complete-body b room fuel (m + 1) j r n (omega arith))
    complete-body (procedure a t s b) zero fuel i j h n l = absurd (omega arith)
    complete-body (procedure a t s b) (suc room) zero i j h n l = absurd (let r = body-real (procedure a t s b) i j h in omega arith)
    complete-body (procedure a t s b) (suc room) (suc fuel) i j (m, (w, (e, x, (o, (y, z, (p, (d, k)))))), (c, r)) n l =
        let le = (keep_statement {kinds = kinds} {others = kinds} s).rises k in
        rw (e, y) (procedure-step _ _ fuel i m j _ b w
        (procedure-of-step room i m s x o z p d (complete-statement s room _ m k (omega arith) (stop-semicolon m c) (no-else m s c refl))) c
        (complete-body b (suc room) fuel (m + 1) j r (omega arith) (omega arith)))
    complete-body (items xs) room zero i j h n l = absurd (let r = body-real (items xs) i j h in omega arith)
    complete-body (items xs) room (suc fuel) i j h n l = items-step _ _ fuel i j xs (items-first xs i j h) (complete-items xs room (suc (length kinds)) i j h n (omega arith))

    complete-items : (xs : Items) (room fuel i j : ℕ) → is_items kinds xs i j → items_nesting xs ≤ room → length kinds < fuel + i → items_of (statement room) fuel kinds i ≡ ok xs j
    complete-items ended room zero i j h n l = absurd (let r = items-real ended i j h in omega arith)
    complete-items ended room (suc fuel) i j (h, q) n l = rw (← q) (ended-step _ (procedure_of room) fuel i h)
    complete-items (label t xs) room zero i j h n l = absurd (let r = items-real (label t xs) i j h in omega arith)
    complete-items (label t xs) room (suc fuel) i j (e, h, (c, r)) n l = rw e (label-step _ (procedure_of room) fuel i j xs h c (complete-items xs room fuel (i + 1 + 1) j r n (omega arith)))
    complete-items (item s xs) room zero i j h n l = absurd (let r = items-real (item s xs) i j h in omega arith)
    complete-items (item s xs) room (suc fuel) i j (m, h, (c, r)) n l =
        let le = (keep_statement {kinds = kinds} {others = kinds} s).rises h in
        item-step _ (procedure_of room) fuel i m j s xs (statement-first s i m h (stop-semicolon m c))
        (complete-statement s room i m h (omega arith) (stop-semicolon m c) (no-else m s c refl)) c
        (complete-items xs room fuel (m + 1) j r (omega arith) (omega arith))

    complete-choices : (xs : Choices) (room fuel i j : ℕ) → are_choices kinds xs i j → choices_nesting xs ≤ room → length kinds < fuel + i → choices_of (statement room) fuel kinds i ≡ ok xs j
    complete-choices over room zero i j h n l = absurd (let r = choices-real over i j h in omega arith)
    complete-choices over room (suc fuel) i j (h, q) n l = rw (← q) (over-step _ (procedure_of room) fuel i h)
    complete-choices (choice s xs) room zero i j h n l = absurd (let r = choices-real (choice s xs) i j h in omega arith)
    complete-choices (choice s xs) room (suc fuel) i j (m, h, (c, r)) n l =
        let le = (keep_statement {kinds = kinds} {others = kinds} s).rises h in
        choice-step _ (procedure_of room) fuel i m j s xs (isnt-one kinds i (K.NAME ∷ not_named) K.END (statement-begin s i m h (stop-semicolon m c)) refl)
        (complete-statement s room i m h (omega arith) (stop-semicolon m c) (no-else m s c refl)) c
        (complete-choices xs room fuel (m + 1) j r (omega arith) (omega arith))

  -- ── "program = block @.", with any room ──

  block-begin : (x : Statement) (i j : ℕ) → is_block kinds x i j → get_or kinds i 0 ≡ K.BEGIN
  unfolding is_statement
  block-begin x i j ((t, b, e), h) = (subst (λ (y : Statement). is_statement kinds y i j) e h).1

  pub complete-program : (room : ℕ) (x : Statement) (i j : ℕ) → is_program kinds x i j → nesting_of x ≤ room → program_in room kinds i ≡ ok x j
  unfolding is_program look and_then want
  complete-program room x i j (m, h, (a, q)) n = rw (block-begin x i m h, complete-statement x room i m h.1 n (rw a) (no-else m x a refl), a, q)
