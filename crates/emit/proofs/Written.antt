-- The instructions that are made of an operand, and of an assignment's operands, are the definition's with the places of cells. Assumes nothing.
use mathlib.Core.Path.{◌≡◌, refl, sym, ap, ap₂, ◌∙◌}
use mathlib.Core.Bool.{true, false}
use mathlib.Core.List.{List, [], ◌∷◌, ◌++◌, map, map-append}
use Prim.Native.Nat.{ℕ, ◌+◌, ◌-◌, ◌/◌, ◌%◌}
use lib.Dec.{eqb}
use Rattle.base.specs.Choose.{whether◌then◌else◌}
use Rattle.base.specs.Lists.{member}
use Rattle.base.proofs.Tests.{cases}
use Rattle.token.specs.Kinds as K
use Rattle.grammar.specs.Tree.{Operand, number, place, Sign, plain, abs, neg, neg_abs, Term, Assignment, Width, full, short, byte}
use Rattle.grammar.specs.Derives.{is_operand, are_terms, is_assignment}
use Rattle.tape.specs.Tape.{width_of}
use Rattle.tables.specs.Packed.{coded_width}
use Rattle.static_rules.specs.Functions.{Function}
use Rattle.static_rules.specs.Meaning.{Meaning, nothing, register, cell, routine, function, is_full}
use Rattle.static_rules.specs.Tables.{Tables, kind_at, meaning_at}
use Rattle.static_rules.specs.Rules.{shifts}
use Rattle.tables.specs.Packed.{meanings_of}
use Rattle.translation.specs.Instructions.{Datum, element, literal, Instruction, shift, branch, opcode, column, load_row, times_row, store_row, row_of, abs_op, neg_op, neg_abs_op, shift_code}
use Rattle.translation.specs.Core as C
use Rattle.translation.specs.Core.{apply, signed, load, use_of, source_of, number_of, shift_by, product_target, term_of, chain_of, to_register, assign_by, assignment_of, function_with, function_on}
use Rattle.translation.specs.Bytes.{index_register}
use Rattle.emit.specs.declared.Use.{Use}
use Rattle.emit.specs.declared.Use.TheVariants.{Absent, Held, Stored}
use Rattle.emit.specs.declared.Code.{Code}
use Rattle.emit.specs.declared.Code.TheVariants.{Four}
use Rattle.emit.specs.declared.Codes.TheVariants.{None}
use Rattle.emit.specs.Codes.{list_of, column_of, apply_code, apply_codes, apply_then, sign_code, signed_codes, load_codes, held_in, amount_in, is_long_use, product_register, term_codes, first_codes, next_codes, half_of, function_codes}
use Rattle.functions.specs.Arguments.{function_in}
use Rattle.functions.proofs.Packed.{by-function}
use Rattle.emit.specs.Along.{code_at, code_for, sign_of}
use Rattle.emit.proofs.Operands.{Small, offset_at, stands, placed, used, by_place, by-use}

-- the definition's instructions, with the places of cells
abbrev pub coded : (offsets : List ℕ) → List Instruction → List Code
coded offsets is = map (code_for (offset_at offsets)) is

-- a compare and the branch behind it
abbrev pub tested : (offsets : List ℕ) → List Instruction → (mask to : ℕ) → List Code
tested offsets is mask to = coded offsets is ++ (code_for (offset_at offsets) (branch mask to) ∷ [])

column-is : (w : Width) → column_of (coded_width (width_of w)) ≡ column w
column-is full = refl
column-is short = refl
column-is (byte false) = refl
column-is (byte true) = refl

-- the number of MVI and CLI stands in place of the register and the index; no other opcode has one
function-with :
    (at : ℕ → ℕ) (r v m : ℕ) (a : Datum)
    → code_at at (function_in m).op (half_of (function_in m).op (v / 16) r) (half_of (function_in m).op (v % 16) (index_register a)) a
    ≡ code_for at (function_with (function_in m).form (function_in m).op r v a)
unfolding code_for
function-with at r v m a =
    by-function
    (λ (g : Function). code_at at g.op (half_of g.op (v / 16) r) (half_of g.op (v % 16) (index_register a)) a ≡ code_for at (function_with g.form g.op r v a))
    (refl, (refl, (refl, (refl, (refl, (refl, (refl, (refl, (refl, tt))))))))) refl m

-- the first operand and those behind their operators, for a target
module _ (f : Tables) (means under offsets : List ℕ) where
  unfoldable pub chain_codes : Use → List Term → List Code
  chain_codes aim [] = []
  chain_codes aim (t ∷ ts) = list_of (next_codes aim (kind_at f t.operator) (used f means under offsets t.operand)) ++ chain_codes aim ts

  unfoldable pub assigned_codes : Use → Assignment → List Code
  assigned_codes aim a = list_of (first_codes aim (sign_of a.sign) (used f means under offsets a.first)) ++ chain_codes aim a.rest

  -- a target that is no register takes no chain
  no-chain : (aim : Use) → ((kind : ℕ) (u : Use) → next_codes aim kind u ≡ None) → (ts : List Term) → chain_codes aim ts ≡ []
  unfolding chain_codes list_of
  no-chain aim e [] = refl
  no-chain aim e (t ∷ ts) = rw (e (kind_at f t.operator) (used f means under offsets t.operand)) (no-chain aim e ts)

module _ (f : Tables) (means under offsets : List ℕ) (table : f.means ≡ meanings_of means under) (small : Small f) where
  -- ── an operand ──

  module _ (a : Operand) (i j : ℕ) (h : is_operand f.kinds a i j) where
    abbrev its : Use
    its = used f means under offsets a

    pub apply-is : (row r : ℕ) → list_of (apply_codes row r its) ≡ coded offsets (apply row r (use_of f a))
    unfolding list_of apply_codes apply_code code_for
    apply-is row r =
        by-use f means under table offsets small (λ s n l u v. list_of (apply_codes row r v) ≡ coded offsets (apply row r u)) refl (λ s. refl) (λ v. refl)
        (λ c o x. rw (column-is c.width)) a i j h

    signed_is : (op r : ℕ) → list_of (signed_codes op r its) ≡ coded offsets (signed op r (use_of f a))
    unfolding list_of signed_codes apply_then apply_code code_for
    signed_is op r =
        by-use f means under table offsets small (λ s n l u v. list_of (signed_codes op r v) ≡ coded offsets (signed op r u)) refl (λ s. refl) (λ v. refl)
        (λ c o x. rw (column-is c.width)) a i j h

    load_is : (g : Sign) (r : ℕ) → list_of (load_codes (sign_of g) r its) ≡ coded offsets (load g r (use_of f a))
    unfolding load_codes sign_code
    load_is plain r = apply-is load_row r
    load_is (abs t) r = signed_is abs_op r
    load_is (neg t) r = signed_is neg_op r
    load_is (neg_abs t) r = signed_is neg_abs_op r

    source_is : held_in its ≡ source_of f a
    unfolding held_in
    source_is = by-use f means under table offsets small (λ s n l u v. held_in v ≡ s) refl (λ r. refl) (λ v. refl) (λ c o x. refl) a i j h

    shift_is : (op r : ℕ) → Four op r 0 (held_in its) (amount_in its) ∷ [] ≡ coded offsets (shift_by f op r a)
    unfolding held_in amount_in code_for shift_by
    shift_is op r =
        by-use f means under table offsets small (λ s n l u v. Four op r 0 (held_in v) (amount_in v) ∷ [] ≡ coded offsets (shift op r s n ∷ [])) refl (λ s. refl)
        (λ v. refl) (λ c o x. refl) a i j h
        ∙ ap (coded offsets) (by-operand a)
      where
        by-operand : (b : Operand) → shift op r (source_of f b) (number_of f b) ∷ [] ≡ shift_by f op r b
        by-operand (number t) = refl
        by-operand (place d) = refl

    product_is : (r : ℕ) → list_of (apply_codes times_row (product_register r its) its) ≡ coded offsets (apply times_row (product_target f r a) (use_of f a))
    unfolding list_of apply_codes apply_code product_register is_long_use code_for
    product_is r =
        by-use f means under table offsets small
        (λ s n l u v. list_of (apply_codes times_row (product_register r v) v) ≡ coded offsets (apply times_row (whether l then (r - 1) else r) u)) refl (λ s. refl) (λ v. refl)
        (λ c o x. by_width c.width x c.base.register (offset_at offsets c.name + o)) a i j h
      where
        by_width :
            (w : Width) (x b d : ℕ)
            → list_of (apply_codes times_row (product_register r (Stored (coded_width (width_of w)) x b d)) (Stored (coded_width (width_of w)) x b d))
            ≡ Four (opcode times_row (column w)) (whether is_full w then (r - 1) else r) x b d ∷ []
        by_width full x b d = refl
        by_width short x b d = refl
        by_width (byte false) x b d = refl
        by_width (byte true) x b d = refl

    term_is : (o r : ℕ) → list_of (term_codes (kind_at f o) r its) ≡ coded offsets (term_of f r (record { operator = o; operand = a }))
    unfolding list_of term_codes term_of
    term_is o r =
        cases (member (kind_at f o) shifts)
        (λ e. rw e (shift_is (shift_code (kind_at f o)) r))
        (λ e. rw e (cases (eqb (kind_at f o) K.TIMES) (λ g. rw g (product_is r)) (λ g. rw g (apply-is (row_of (kind_at f o)) r))))

    pub function-is : (r v m : ℕ) → list_of (function_codes (function_in m).op r v its) ≡ coded offsets (function_on (function_in m) r v (use_of f a))
    unfolding list_of function_codes code_for
    function-is r v m =
        by-use f means under table offsets small (λ s n l u w. list_of (function_codes (function_in m).op r v w) ≡ coded offsets (function_on (function_in m) r v u)) refl (λ s. refl)
        (λ n. one (literal n)) (λ c o x. one (element c o x)) a i j h
      where
        one : (d : Datum) → code_at (offset_at offsets) (function_in m).op (half_of (function_in m).op (v / 16) r) (half_of (function_in m).op (v % 16) (index_register d)) d ∷ []
            ≡ coded offsets (function_with (function_in m).form (function_in m).op r v d ∷ [])
        one d = ap (λ (c : Code). c ∷ []) (function-with (offset_at offsets) r v m d)

  -- ── assignments ──

  chain-is : (r : ℕ) (ts : List Term) (i j : ℕ) → are_terms f.kinds ts i j → chain_codes f means under offsets (Held r) ts ≡ coded offsets (chain_of f r ts)
  unfolding are_terms chain_codes chain_of next_codes
  chain-is r [] i j h = refl
  chain-is r (t ∷ ts) i j (e, q, (m, h, hs)) =
      ap₂ (λ (x y : List Code). x ++ y) (term_is t.operand (i + 1) m h t.operator r) (chain-is r ts m j hs)
      ∙ sym (map-append (code_for (offset_at offsets)) (term_of f r t) (chain_of f r ts))

  pub register-assigned :
      (r : ℕ) (a : Assignment) (i j : ℕ) → is_assignment f.kinds a i j → assigned_codes f means under offsets (Held r) a ≡ coded offsets (to_register f r a)
  unfolding is_assignment assigned_codes to_register first_codes
  register-assigned r a i j (m, h, (b, (n, hs, (p, ho, ht)))) =
      ap₂ (λ (x y : List Code). x ++ y) (load_is a.first n p ho a.sign r) (chain-is r a.rest p j ht)
      ∙ sym (map-append (code_for (offset_at offsets)) (load a.sign r (use_of f a.first)) (chain_of f r a.rest))

  pub target-assigned :
      (a : Assignment) (i j : ℕ) → is_assignment f.kinds a i j
      → assigned_codes f means under offsets (placed f means under offsets a.target) a ≡ coded offsets (assignment_of f a)
  unfolding is_assignment assigned_codes assignment_of first_codes next_codes list_of apply_codes apply_code code_for
  target-assigned a i j (m, h, (b, (n, hs, (p, ho, ht)))) =
      by_place f means under table offsets small (λ x u v. assigned_codes f means under offsets v a ≡ coded offsets (assigned x u))
      (no-chain f means under offsets Absent (λ k u. refl) a.rest)
      (λ r. no-chain f means under offsets Absent (λ k u. refl) a.rest)
      (λ n. no-chain f means under offsets Absent (λ k u. refl) a.rest)
      (λ r. register-assigned r a i j (m, h, (b, (n, hs, (p, ho, ht)))))
      (λ c o x. rw (no-chain f means under offsets (stands offsets c o x) (λ k u. refl) a.rest, source_is a.first n p ho, column-is c.width))
      a.target i m h
      ∙ ap (coded offsets) (by-meaning (meaning_at f a.target.name))
    where
      -- with the target's operand
      assigned : Meaning → C.Use → List Instruction
      assigned nothing u = []
      assigned (register r) u = to_register f r a
      assigned (cell c) u = apply store_row (source_of f a.first) u
      assigned (routine r) u = []
      assigned (function k) u = []

      by-meaning : (x : Meaning) → assigned x (use_of f (place a.target)) ≡ assign_by f x a
      by-meaning nothing = refl
      by-meaning (register r) = refl
      by-meaning (cell c) = refl
      by-meaning (routine r) = refl
      by-meaning (function k) = refl
