-- Each rule's right sides as sequences, and each reader along them: what it gives is derived by the rule, and where it refuses, the tokens before begin something of
-- the rule. Assumes nothing.
use mathlib.Core.Path.{◌≡◌, refl, sym, ◌∙◌}
use mathlib.Core.Logic.{inr}
use mathlib.Core.List.{List, [], ◌∷◌}
use mathlib.Core.Bool.{true, false, ◌&&◌, not}
use mathlib.Core.Option.{Option, none, some}
use Prim.Native.Nat.{ℕ, zero, suc, ◌+◌, ◌≤◌, ◌<◌}
use native.Mathlib.Omega.{arith}
use lib.Dec.{eqb}
use lib.ListN.{get_or, length}
use borrow.Author.Tests.{eqb-true, eq-eqb}
use Rattle.base.specs.Lists.{member}
use Rattle.base.proofs.Tests.{cases, never_true, not-true, both}
use Rattle.base.proofs.Lists.{each}
use Rattle.token.specs.Kinds as K
use Rattle.grammar.specs.Tree.{Designator, Operand, number, place, Sign, plain, abs, neg, neg_abs, Term, Assignment, Condition, compared, bare, Width, full, short, byte, Register, Item, Declaration, registers, cells, base, Statement, assign, call, apply, block, goto, null, if_then, if_else, while, for, choose, Body, declare, procedure, items, Items, ended, label, item, Choices, over, choice}
use Rattle.grammar.specs.Reader.{Result, ok, bad, Reader, and_then, look, next, want}
use Rattle.grammar.specs.Grammar.{compounds, designator_of, operand, relations, condition, operators, terms, sign_of, assigned_to, assignment_of, numbers, cell_item, register_item, list_of, type_words, type_of, cells_of, after_type, declaration, arguments, indexed, target_of, assign_or, use_of, after_name, openers, statement_of, items_of, choices_of, Procedure, declarators, body_of, if_of, construct_of, statement, procedure_of, nesting, program}
use Rattle.grammar.specs.Derives.{Part, Begins, only, within, constructs, nesting_of, body_nesting, items_nesting, choices_nesting, is_shape, is_designator, is_operand, is_condition, is_sign, are_terms, is_assignment, are_numbers, is_item, is_register, are_more, are_some, integer_or_logical, is_type, is_declaration, simple, is_procedure, are_arguments, is_statement, is_body, is_items, are_choices, is_block, is_program, is_program_within}
use Rattle.grammar.proofs.Tests.{has, real, later, the_one, second, first}
use Rattle.grammar.proofs.Kept.{keep-designator, keep-operand, keep-condition, keep-sign, keep-terms, keep-assignment, keep-numbers, keep-item, keep-register, keep_some, keep-type, keep-declaration, keep-arguments, keep-procedure, keep_statement, keep_body, keep-items, keep-choices, keep-only, keep-within, keep-block}
use Rattle.grammar.proofs.Sequences.{Rule, Plain, always, plainly, Sequence, reach, right-onward, made, token, one_of, part, parens, Each, Leads, Right, leads-token, leads_one, leads-part, leads-begins, part-begins, starts, gives, refuses, needs, wants, wants-one, wants-parens, reads, either}

-- ── "designator = name, name(number), name(name), name(number)(name). operand = number or designator." ──

module _ {kinds : List ℕ} (i : ℕ) where
  as-name : Leads (always is_designator) kinds i (token K.NAME (λ n. made (record { name = n; subscript = none; index = none }))) i
  unfolding Each is_designator
  as-name = starts (λ _ o n. (refl, n, refl))

  as-subscripted : Leads (always is_designator) kinds i (token K.NAME (λ n. parens K.NUMBER (λ s. made (record { name = n; subscript = some s; index = none })))) i
  unfolding Each is_designator
  as-subscripted = starts (λ _ o n p s c. (refl, n, (p, (refl, s, (c, refl)))))

  as-indexed : Leads (always is_designator) kinds i (token K.NAME (λ n. parens K.NAME (λ x. made (record { name = n; subscript = none; index = some x })))) i
  unfolding Each is_designator
  as-indexed = starts (λ _ o n p x c. (refl, n, (p, (refl, x, (c, refl)))))

  as-both : Leads (always is_designator) kinds i (token K.NAME (λ n. parens K.NUMBER (λ s. parens K.NAME (λ x. made (record { name = n; subscript = some s; index = some x }))))) i
  unfolding Each is_designator
  as-both = starts (λ _ o n p s c q x d. (refl, n, (p, (refl, s, (c, (q, (refl, x, (d, refl))))))))

abbrev designators : Rule Designator
designators = plainly (record { is = is_designator; kept = keep-designator; some = λ kinds i. leads-begins 0 (as-name i) })

module _ (kinds : List ℕ) where
  pub right-designator : (n : ℕ) → get_or kinds n 0 ≡ K.NAME → Right (always is_designator) kinds n (designator_of n kinds (n + 1))
  unfolding designator_of and_then look next
  right-designator n h = either (has kinds (n + 1) K.OPEN) _ _ _
      (λ p. let o = eqb-true _ _ p in
      wants-one _ _ (leads-token (leads-token (as-subscripted n) h) o) (λ m. cases (has kinds (n + 1 + 1) K.NAME)
      (λ e. rw e (wants _ (leads-token (leads-token (leads-token (as-indexed n) h) o) (eqb-true _ _ e)) (λ c. gives)))
      (λ e. let s = first _ K.NUMBER K.NAME m e in
      rw e (wants _ (leads-token (leads-token (leads-token (as-subscripted n) h) o) s) (λ c l. either (has kinds (n + 1 + 1 + 1 + 1) K.OPEN) _ _ _
      (λ q. wants-parens _ (leads-token (leads-token (leads-token (leads-token (as-both n) h) o) s) c) gives)
      (λ q. gives l))))))
      (λ p. gives (leads-token (as-name n) h))

module _ {kinds : List ℕ} (i : ℕ) where
  as_number : Leads (always is_operand) kinds i (token K.NUMBER (λ t. made (number t))) i
  unfolding Each is_operand
  as_number = starts (λ _ o t. (refl, t, refl))

  as_place : Leads (always is_operand) kinds i (part designators (λ d. made (place d))) i
  unfolding Each is_operand
  as_place = starts (λ _ o d j h. h)

abbrev operands : Rule Operand
operands = plainly (record { is = is_operand; kept = keep-operand; some = λ kinds i. leads-begins 0 (as_number i) })

module _ (kinds : List ℕ) where
  right_operand : (i : ℕ) → Right (always is_operand) kinds i (operand kinds i)
  unfolding operand and_then look
  right_operand i = wants-one _ _ (as_number i) (λ m. either (has kinds i K.NUMBER) _ _ _
      (λ e. gives (leads-token (as_number i) (eqb-true _ _ e)))
      (λ e. reads _ (as_place i) (right-designator kinds i (second _ K.NUMBER K.NAME m e)) (λ d m h. gives)))

-- ── "condition = name relation operand, a bare relation, or OVERFLOW." ──

module _ {kinds : List ℕ} (i : ℕ) where
  as-compared : Leads (always is_condition) kinds i (token K.NAME (λ n. one_of K.EQUAL relations refl (λ r. part operands (λ a. made (compared n r a))))) i
  unfolding Each is_condition
  as-compared = starts (λ _ o n r a j h. (refl, n, (refl, r, h)))

  as-bare : Leads (always is_condition) kinds i (one_of K.OVERFLOW (K.OVERFLOW ∷ relations) refl (λ r. made (bare r))) i
  unfolding Each is_condition
  as-bare = starts (λ _ o r. (refl, r, refl))

abbrev conditions : Rule Condition
conditions = plainly (record { is = is_condition; kept = keep-condition; some = λ kinds i. leads-begins 0 (as-bare i) })

module _ (kinds : List ℕ) where
  right-condition : (i : ℕ) → Right (always is_condition) kinds i (condition kinds i)
  unfolding condition and_then look
  right-condition i = wants-one _ _ (as-bare i) (λ m. either (has kinds i K.NAME) _ _ _
      (λ e. let l = leads-token (as-compared i) (eqb-true _ _ e) in
      wants-one _ _ l (λ r. reads _ (leads_one l r) (right_operand kinds (i + 1 + 1)) (λ a j h. gives)))
      (λ e. gives (leads_one (as-bare i) (later (get_or kinds i 0) K.NAME (K.OVERFLOW ∷ relations) m e))))

-- ── "assignment = designator := [ABS, NEG or NEG ABS] operand {operator operand}." ──

module _ {kinds : List ℕ} (i : ℕ) where
  as_plain : Leads (always is_sign) kinds i (made plain) i
  unfolding Each is_sign
  as_plain = starts (λ _ o. refl)

  as-abs : Leads (always is_sign) kinds i (token K.ABS (λ t. made (abs t))) i
  unfolding Each is_sign
  as-abs = starts (λ _ o t. (refl, t, refl))

  as-neg : Leads (always is_sign) kinds i (token K.NEG (λ t. made (neg t))) i
  unfolding Each is_sign
  as-neg = starts (λ _ o t. (refl, t, refl))

  as-neg-abs : Leads (always is_sign) kinds i (token K.NEG (λ t. token K.ABS (λ u. made (neg_abs t)))) i
  unfolding Each is_sign
  as-neg-abs = starts (λ _ o t u. (refl, t, (u, refl)))

  as-no-term : Leads (always are_terms) kinds i (made []) i
  unfolding Each are_terms
  as-no-term = starts (λ _ o. refl)

abbrev signs : Rule Sign
signs = plainly (record { is = is_sign; kept = keep-sign; some = λ kinds i. leads-begins 0 (as_plain i) })

abbrev chains : Rule (List Term)
chains = plainly (record { is = are_terms; kept = keep-terms; some = λ kinds i. leads-begins 0 (as-no-term i) })

module _ {kinds : List ℕ} (i : ℕ) where
  as-term : Leads (always are_terms) kinds i (one_of K.PLUS operators refl (λ o. part operands (λ a. part chains (λ ts. made (record { operator = o; operand = a } ∷ ts))))) i
  unfolding Each are_terms
  as-term = starts (λ _ o t a m h ts j hs. (refl, t, (m, h, hs)))

  as-assignment : Leads (always is_assignment) kinds i (part designators (λ d.
      token K.BECOMES (λ t. part signs (λ s. part operands (λ a. part chains (λ ts. made (record { target = d; sign = s; first = a; rest = ts }))))))) i
  unfolding Each is_assignment
  as-assignment = starts (λ _ o d m h t s n hs a p ha ts j hts. (m, h, (t, (n, hs, (p, ha, hts)))))

abbrev assignments : Rule Assignment
assignments = plainly (record { is = is_assignment; kept = keep-assignment; some = λ kinds i. leads-begins 0 (as-assignment i) })

module _ (kinds : List ℕ) where
  right-sign : (i : ℕ) → Right (always is_sign) kinds i (sign_of kinds i)
  unfolding sign_of and_then look next
  right-sign i = either (has kinds i K.ABS) _ _ _
      (λ e. gives (leads-token (as-abs i) (eqb-true _ _ e)))
      (λ e. either (has kinds i K.NEG) _ _ _
      (λ n. either (has kinds (i + 1) K.ABS) _ _ _
      (λ a. gives (leads-token (leads-token (as-neg-abs i) (eqb-true _ _ n)) (eqb-true _ _ a)))
      (λ a. gives (leads-token (as-neg i) (eqb-true _ _ n))))
      (λ n. gives (as_plain i)))

  right-terms : (fuel i : ℕ) → Right (always are_terms) kinds i (terms fuel kinds i)
  unfolding terms and_then look next
  right-terms zero i = gives (as-no-term i)
  right-terms (suc fuel) i = either (member (get_or kinds i 0) operators) _ _ _
      (λ e. reads _ (leads_one (as-term i) e) (right_operand kinds (i + 1)) (λ a m h l. reads _ l (right-terms fuel m) (λ ts j hs. gives)))
      (λ e. gives (as-no-term i))

  -- a target stands from n up to m
  right-assigned : (n m : ℕ) (d : Designator) → is_designator kinds d n m → Right (always is_assignment) kinds n (assigned_to d kinds m)
  unfolding assigned_to
  right-assigned n m d h =
      wants _ (leads-part (as-assignment n) h) (λ b l. reads _ l (right-sign (m + 1)) (λ s p hs l.
      reads _ l (right_operand kinds p) (λ a q ha l. reads _ l (right-terms (suc (length kinds)) q) (λ ts j hts. gives))))

  right-assignment : (n : ℕ) → get_or kinds n 0 ≡ K.NAME → Right (always is_assignment) kinds n (assignment_of n kinds (n + 1))
  unfolding assignment_of
  right-assignment n h = reads _ (as-assignment n) (right-designator kinds n h) (λ d m hd l. right-assigned n m d hd)

-- ── "declaration = (INTEGER or LOGICAL) REGISTER name(number) {, name(number)}; or [ARRAY (number)] type item {, item}; or … SEGMENT BASE name. type =
-- INTEGER, LOGICAL or SHORT INTEGER; item = name {(number)}." ──

module _ {kinds : List ℕ} (i : ℕ) where
  as-no-number : Leads (always are_numbers) kinds i (made []) i
  unfolding Each are_numbers
  as-no-number = starts (λ _ o. refl)

abbrev values : Rule (List ℕ)
values = plainly (record { is = are_numbers; kept = keep-numbers; some = λ kinds i. leads-begins 0 (as-no-number i) })

module _ {kinds : List ℕ} (i : ℕ) where
  as-value : Leads (always are_numbers) kinds i (parens K.NUMBER (λ t. part values (λ ts. made (t ∷ ts)))) i
  unfolding Each are_numbers
  as-value = starts (λ _ o p t c ts j h. (p, (refl, t, (c, h))))

  as-item : Leads (always is_item) kinds i (token K.NAME (λ n. part values (λ ts. made (record { name = n; numbers = ts })))) i
  unfolding Each is_item
  as-item = starts (λ _ o n ts j h. (refl, n, h))

  as-register : Leads (always is_register) kinds i (token K.NAME (λ n. parens K.NUMBER (λ t. made (record { name = n; number = t })))) i
  unfolding Each is_register
  as-register = starts (λ _ o n p t c. (refl, n, (p, (refl, t, (c, refl)))))

abbrev cell_items : Plain Item
cell_items = record { is = is_item; kept = keep-item; some = λ kinds i. leads-begins 0 (as-item i) }

abbrev register_items : Plain Register
register_items = record { is = is_register; kept = keep-register; some = λ kinds i. leads-begins 0 (as-register i) }

module _ (kinds : List ℕ) where
  right-numbers : (fuel i : ℕ) → Right (always are_numbers) kinds i (numbers fuel kinds i)
  unfolding numbers and_then look
  right-numbers zero i = gives (as-no-number i)
  right-numbers (suc fuel) i = either (has kinds i K.OPEN) _ _ _
      (λ e. wants-parens _ (as-value i) (λ l. reads _ l (right-numbers fuel (i + 1 + 1 + 1)) (λ ts j h. gives)))
      (λ e. gives (as-no-number i))

  right-item : (i : ℕ) → Right (always is_item) kinds i (cell_item kinds i)
  unfolding cell_item
  right-item i = wants _ (as-item i) (λ n l. reads _ l (right-numbers (suc (length kinds)) (i + 1)) (λ ts j h. gives))

  right-register : (i : ℕ) → Right (always is_register) kinds i (register_item kinds i)
  unfolding register_item
  right-register i = wants _ (as-register i) (λ n l. wants-parens _ l gives)

module _ {A : Type 0} (one : Plain A) where
  abbrev are_list : List ℕ → List A → Part
  are_list kinds = are_some kinds (one.is kinds)

  abbrev are_further : List ℕ → List A → Part
  are_further kinds = are_more kinds (one.is kinds)

  module _ {kinds : List ℕ} (i : ℕ) where
    as_one : Leads (always are_list) kinds i (part (plainly one) (λ x. made (x ∷ []))) i
    unfolding Each are_some are_more
    as_one = starts (λ _ o x m h. (m, h, refl))

  abbrev lists : Rule (List A)
  lists = plainly (record { is = are_list; kept = λ xs. keep_some _ _ one.kept xs; some = λ kinds i. leads-begins 0 (as_one i) })

  further : (kinds : List ℕ) (xs : List A) (i j : ℕ) → get_or kinds i 0 ≡ K.COMMA → are_list kinds xs (i + 1) j → are_further kinds xs i j
  unfolding are_some are_more
  further kinds [] i j c h = absurd h
  further kinds (x ∷ xs) i j c h = (c, h)

  module _ {kinds : List ℕ} (i : ℕ) where
    as-more : Leads (always are_list) kinds i (part (plainly one) (λ x. token K.COMMA (λ c. part lists (λ xs. made (x ∷ xs))))) i
    unfolding Each are_some
    as-more = starts (λ _ o x m h c xs j hs. (m, h, further o xs m j c hs))

  module _ (kinds : List ℕ) (read : Reader A) (right : (i : ℕ) → Right (always one.is) kinds i (read kinds i)) where
    right-list : (fuel i : ℕ) → length kinds < suc fuel + i → Right (always are_list) kinds i (list_of read (suc fuel) kinds i)
    unfolding list_of and_then look next
    right-list zero i enough = reads _ (as_one i) (right i) (λ x m h l. either (has kinds m K.COMMA) _ _ _
        (λ c. absurd (let t = real kinds m K.COMMA (omega arith) (eqb-true _ _ c) in let r = (one.kept {kinds = kinds} {others = kinds} x).rises h in omega arith))
        (λ c. gives l))
    right-list (suc fuel) i enough = reads _ (as_one i) (right i) (λ x m h l. either (has kinds m K.COMMA) _ _ _
        (λ c. reads _ (leads-token (leads-part (as-more i) h) (eqb-true _ _ c))
        (right-list fuel (m + 1) (let r = (one.kept {kinds = kinds} {others = kinds} x).rises h in omega arith)) (λ xs j hs. gives))
        (λ c. gives l))

module _ {kinds : List ℕ} (i : ℕ) where
  as-full : Leads (always is_type) kinds i (one_of K.INTEGER integer_or_logical refl (λ t. made full)) i
  unfolding Each is_type
  as-full = starts (λ _ o t. (t, refl))

  as_short : Leads (always is_type) kinds i (token K.SHORT (λ s. token K.INTEGER (λ t. made short))) i
  unfolding Each is_type
  as_short = starts (λ _ o s t. (s, (t, refl)))

  as_byte : Leads (always is_type) kinds i (token K.BYTE (λ t. made (byte false))) i
  unfolding Each is_type
  as_byte = starts (λ _ o t. (t, refl))

  as-character : Leads (always is_type) kinds i (token K.CHARACTER (λ t. made (byte true))) i
  unfolding Each is_type
  as-character = starts (λ _ o t. (t, refl))

abbrev types : Rule Width
types = plainly (record { is = is_type; kept = keep-type; some = λ kinds i. leads-begins 0 (as-full i) })

abbrev cell_lists : Rule (List Item)
cell_lists = lists cell_items

abbrev register_lists : Rule (List Register)
register_lists = lists register_items

module _ {kinds : List ℕ} (i : ℕ) where
  as-registers : Leads (always is_declaration) kinds i (one_of K.INTEGER integer_or_logical refl (λ t. token K.REGISTER (λ r. part register_lists (λ rs. made (registers rs))))) i
  unfolding Each is_declaration
  as-registers = starts (λ _ o t r rs j h. (t, (r, h)))

  as-cells : Leads (always is_declaration) kinds i (part types (λ w. part cell_lists (λ xs. made (cells none w xs)))) i
  unfolding Each is_declaration
  as-cells = starts (λ _ o w m h xs j hs. (m, h, hs))

  as-array : Leads (always is_declaration) kinds i (token K.ARRAY (λ a. parens K.NUMBER (λ c. part types (λ w. part cell_lists (λ xs. made (cells (some c) w xs)))))) i
  unfolding Each is_declaration
  as-array = starts (λ _ o a p c q w m h xs j hs. (a, (p, (refl, c, (q, (m, h, hs))))))

  as-base : Leads (always is_declaration) kinds i (token K.SEGMENT (λ s. token K.BASE (λ b. token K.NAME (λ n. made (base n))))) i
  unfolding Each is_declaration
  as-base = starts (λ _ o s b n. (s, (b, (refl, n, refl))))

abbrev declarations : Rule Declaration
declarations = plainly (record { is = is_declaration; kept = keep-declaration; some = λ kinds i. leads-begins 0 (as-base i) })

module _ (kinds : List ℕ) where
  -- a type is full, of which REGISTER may follow, short or a byte
  right-type : (i : ℕ) → Right (always is_type) kinds i (type_of kinds i)
  unfolding type_of and_then look
  right-type i = wants-one _ _ (as-full i) (λ m. either (has kinds i K.SHORT) _ _ _
      (λ e. wants _ (leads-token (as_short i) (eqb-true _ _ e)) (λ t. gives))
      (λ e. either (has kinds i K.BYTE) _ _ _ (λ b. gives (leads-token (as_byte i) (eqb-true _ _ b)))
      (λ b. either (has kinds i K.CHARACTER) _ _ _ (λ c. gives (leads-token (as-character i) (eqb-true _ _ c)))
      (λ c. gives (leads_one (as-full i) (full-type (get_or kinds i 0) m e b c))))))
    where
      full-type : (k : ℕ) → member k type_words ≡ true → eqb k K.SHORT ≡ false → eqb k K.BYTE ≡ false → eqb k K.CHARACTER ≡ false → member k integer_or_logical ≡ true
      full-type k h e b c = each (λ z. eqb z K.SHORT ≡ false → eqb z K.BYTE ≡ false → eqb z K.CHARACTER ≡ false → member z integer_or_logical ≡ true) type_words
          (λ d u v. refl, (λ d u v. refl, (λ d u v. sym d, (λ d u v. sym u, (λ d u v. sym v, tt))))) k h e b c

  right-cells : (i p : ℕ) (c : Option ℕ) (w : Width) → Leads (always is_declaration) kinds i (part cell_lists (λ xs. made (cells c w xs))) p → Right (always is_declaration) kinds i (cells_of c w kinds p)
  unfolding cells_of
  right-cells i p c w l = reads _ l (right-list cell_items kinds _ (right-item kinds) (length kinds) p (omega arith)) (λ xs j h. gives)

  right-after-type : (i p : ℕ) (w : Width) → is_type kinds w i p → Right (always is_declaration) kinds i (after_type w kinds p)
  unfolding after_type is_type and_then look next
  right-after-type i p short h = right-cells i p none short (leads-part (as-cells i) h)
  right-after-type i p (byte c) h = right-cells i p none (byte c) (leads-part (as-cells i) h)
  right-after-type i p full h = either (has kinds p K.REGISTER) _ _ _
      (λ r. reads _ (leads-token (rw h.1 at (leads_one {kinds = kinds} (as-registers i) h.0)) (eqb-true _ _ r))
      (right-list register_items kinds _ (right-register kinds) (length kinds) (p + 1) (omega arith)) (λ rs j hs. gives))
      (λ r. right-cells i p none full (leads-part (as-cells i) h))

  right-declaration : (i : ℕ) → Right (always is_declaration) kinds i (declaration kinds i)
  unfolding declaration and_then look next
  right-declaration i = either (has kinds i K.SEGMENT) _ _ _
      (λ s. wants _ (leads-token (as-base i) (eqb-true _ _ s)) (λ b l. wants _ l (λ n. gives)))
      (λ s. either (has kinds i K.ARRAY) _ _ _
      (λ a. wants-parens _ (leads-token (as-array i) (eqb-true _ _ a)) (λ l. reads _ l (right-type (i + 1 + 1 + 1 + 1)) (λ w m h. right-cells i m _ w)))
      (λ a. reads _ (as-cells i) (right-type i) (λ w m h l. right-after-type i m w h)))

-- ── a row of arguments, and the designator that it is with its name, if it is one ──

module _ {kinds : List ℕ} (i : ℕ) where
  as-no-argument : Leads (always are_arguments) kinds i (made []) i
  unfolding Each are_arguments
  as-no-argument = starts (λ _ o. refl)

abbrev rows : Rule (List Operand)
rows = plainly (record { is = are_arguments; kept = keep-arguments; some = λ kinds i. leads-begins 0 (as-no-argument i) })

module _ {kinds : List ℕ} (i : ℕ) where
  as-argument : Leads (always are_arguments) kinds i (token K.OPEN (λ o. part operands (λ a. token K.CLOSE (λ c. part rows (λ xs. made (a ∷ xs)))))) i
  unfolding Each are_arguments
  as-argument = starts (λ _ o p a m h c xs j hs. (p, (m, h, (c, hs))))

module _ (kinds : List ℕ) where
  pub right-arguments : (fuel i : ℕ) → Right (always are_arguments) kinds i (arguments fuel kinds i)
  unfolding arguments and_then look next
  right-arguments zero i = gives (as-no-argument i)
  right-arguments (suc fuel) i = either (has kinds i K.OPEN) _ _ _
      (λ e. reads _ (leads-token (as-argument i) (eqb-true _ _ e)) (right_operand kinds (i + 1)) (λ a m h l.
      wants _ l (λ c l. reads _ l (right-arguments fuel (m + 1)) (λ xs j hs. gives))))
      (λ e. gives (as-no-argument i))

  -- a designator, if there is one, stands from n up to j
  abbrev pub Targets : (n j : ℕ) → Option Designator → Type 0
  Targets n j none = Unit {0}
  Targets n j (some d) = is_designator kinds d n j

  indexed-targets : (n j x : ℕ) (t y : Option ℕ) (p : ℕ) → get_or kinds n 0 ≡ K.NAME → get_or kinds (n + 1) 0 ≡ K.OPEN → is_shape kinds x t y (n + 1 + 1) p
      → get_or kinds p 0 ≡ K.CLOSE → p + 1 ≡ j → Targets n j (indexed n none x t y)
  unfolding is_designator
  indexed-targets n j x none none p h o (e, y, u) c v = (refl, h, (o, (e, y, (rw u c, omega arith))))
  indexed-targets n j x none (some y) p h o s c v = tt
  indexed-targets n j x (some t) none p h o s c v = tt
  indexed-targets n j x (some t) (some y) p h o s c v = tt

  both-targets : (n j s x : ℕ) (t y : Option ℕ) (p : ℕ) → get_or kinds n 0 ≡ K.NAME → get_or kinds (n + 1) 0 ≡ K.OPEN → s ≡ n + 1 + 1
      → get_or kinds (n + 1 + 1) 0 ≡ K.NUMBER → get_or kinds (n + 1 + 1 + 1) 0 ≡ K.CLOSE → get_or kinds (n + 1 + 1 + 1 + 1) 0 ≡ K.OPEN
      → is_shape kinds x t y (n + 1 + 1 + 1 + 1 + 1) p → get_or kinds p 0 ≡ K.CLOSE → p + 1 ≡ j → Targets n j (indexed n (some s) x t y)
  unfolding is_designator
  both-targets n j s x none none p h o e z c q (f, y, u) d v = (refl, h, (o, (e, z, (c, (q, (f, y, (rw u d, omega arith)))))))
  both-targets n j s x none (some y) p h o e z c q g d v = tt
  both-targets n j s x (some t) none p h o e z c q g d v = tt
  both-targets n j s x (some t) (some y) p h o e z c q g d v = tt

  pub row-targets : (n j : ℕ) (xs : List Operand) → get_or kinds n 0 ≡ K.NAME → are_arguments kinds xs (n + 1) j → Targets n j (target_of n xs)
  unfolding target_of are_arguments is_operand is_designator
  row-targets n j [] h q = (refl, h, q)
  row-targets n j (number s ∷ []) h (o, (p, (e, y, u), (c, q))) = (refl, h, (o, (e, y, (rw u c, omega arith))))
  row-targets n j (number s ∷ (number t ∷ xs)) h r = tt
  row-targets n j (number s ∷ (place d ∷ [])) h (o, (p, (e, y, u), (c, (b, (m, g, (z, q)))))) =
      both-targets n j s d.name d.subscript d.index m h o e y (rw u c) (rw u b) (rw (← u) at g) z q
  row-targets n j (number s ∷ (place d ∷ (a ∷ xs))) h r = tt
  row-targets n j (place d ∷ []) h (o, (p, g, (c, q))) = indexed-targets n j d.name d.subscript d.index p h o g c q
  row-targets n j (place d ∷ (a ∷ xs)) h r = tt

-- ── "simple = assignment, name (a call), block, GOTO name, NULL.", and what holds constructs, with room for so many one inside the other ──

abbrev statement_in : (room d : ℕ) → List ℕ → Statement → Part
statement_in room d kinds x = within (nesting_of x) (room + d) (is_statement kinds x)

abbrev items_in : (room d : ℕ) → List ℕ → Items → Part
items_in room d kinds xs = within (items_nesting xs) (room + d) (is_items kinds xs)

abbrev choices_in : (room d : ℕ) → List ℕ → Choices → Part
choices_in room d kinds xs = within (choices_nesting xs) (room + d) (are_choices kinds xs)

abbrev body_in : (room d : ℕ) → List ℕ → Body → Part
body_in room d kinds b = within (body_nesting b) (room + d) (is_body kinds b)

-- "PROCEDURE name(name) ; statement", as it is read
abbrev procedure_in : (room d : ℕ) → List ℕ → Procedure → Part
procedure_in room d kinds p = within (suc (nesting_of p.body)) (room + d) (is_procedure kinds p.name p.return (is_statement kinds p.body))

module _ {kinds : List ℕ} (room i : ℕ) where
  as-null : Leads (statement_in room) kinds i (token K.NULL (λ t. made null)) i
  unfolding Each is_statement nesting_of
  as-null = starts (λ d o t. (omega arith, (t, refl)))

  as-ended : Leads (items_in room) kinds i (token K.END (λ t. made ended)) i
  unfolding Each is_statement nesting_of
  as-ended = starts (λ d o t. (omega arith, (t, refl)))

  as-over : Leads (choices_in room) kinds i (token K.END (λ t. made over)) i
  unfolding Each is_statement nesting_of
  as-over = starts (λ d o t. (omega arith, (t, refl)))

  as-no-declaration : Leads (body_in room) kinds i (token K.END (λ t. made (items ended))) i
  unfolding Each is_statement nesting_of
  as-no-declaration = starts (λ d o t. (omega arith, (t, refl)))

abbrev statements : ℕ → Rule Statement
statements room = record {
  is = statement_in room;
  kept = λ x. keep-within _ _ (keep_statement x);
  more = λ d kinds x i j (n, h). (omega arith, h);
  some = λ d kinds i. leads-begins d (as-null room i);
}

abbrev item_lists : ℕ → Rule Items
item_lists room = record {
  is = items_in room;
  kept = λ xs. keep-within _ _ (keep-items xs);
  more = λ d kinds xs i j (n, h). (omega arith, h);
  some = λ d kinds i. leads-begins d (as-ended room i);
}

abbrev choice_lists : ℕ → Rule Choices
choice_lists room = record {
  is = choices_in room;
  kept = λ xs. keep-within _ _ (keep-choices xs);
  more = λ d kinds xs i j (n, h). (omega arith, h);
  some = λ d kinds i. leads-begins d (as-over room i);
}

abbrev bodies : ℕ → Rule Body
bodies room = record {
  is = body_in room;
  kept = λ b. keep-within _ _ (keep_body b);
  more = λ d kinds b i j (n, h). (omega arith, h);
  some = λ d kinds i. leads-begins d (as-no-declaration room i);
}

module _ {kinds : List ℕ} (room i : ℕ) where
  as-procedure : Leads (procedure_in (suc room)) kinds i
      (token K.PROCEDURE (λ t. token K.NAME (λ n. parens K.NAME (λ r.
      token K.SEMICOLON (λ c. part (statements room) (λ s. made (record { name = n; return = r; body = s }))))))) i
  unfolding Each
  as-procedure = starts (λ d o t n p r q c s j (m, h). (omega arith, (t, (refl, n, (p, (refl, r, (q, (c, h))))))))

abbrev procedures : ℕ → Rule Procedure
procedures room = record {
  is = procedure_in (suc room);
  kept = λ p. keep-within _ _ (keep-procedure p.name p.return (keep_statement p.body));
  more = λ d kinds p i j (n, h). (omega arith, h);
  some = λ d kinds i. leads-begins d (as-procedure room i);
}

is-use : (kinds : List ℕ) (room d i : ℕ) → get_or kinds i 0 ≡ K.NAME → (xs : List Operand) (j : ℕ) → are_arguments kinds xs (i + 1) j → statement_in room d kinds (use_of i xs) i j
unfolding is_statement nesting_of are_arguments
is-use kinds room d i n [] j h = (omega arith, (refl, n, h))
is-use kinds room d i n (a ∷ xs) j h = (omega arith, (refl, n, h))

module _ {kinds : List ℕ} (room i : ℕ) where
  as-assign : Leads (statement_in room) kinds i (part assignments (λ a. made (assign a))) i
  unfolding Each is_statement nesting_of
  as-assign = starts (λ d o a j h. (omega arith, h))

  -- a call or a use
  as-use : Leads (statement_in room) kinds i (token K.NAME (λ n. part rows (λ xs. made (use_of n xs)))) i
  unfolding Each
  as-use = starts (λ d o n xs j h. is-use o room d i n xs j h)

  as-goto : Leads (statement_in room) kinds i (token K.GOTO (λ t. token K.NAME (λ n. made (goto t n)))) i
  unfolding Each is_statement nesting_of
  as-goto = starts (λ d o t n. (omega arith, (refl, t, (refl, n, refl))))

  as-block : Leads (statement_in (suc room)) kinds i (token K.BEGIN (λ t. part (bodies room) (λ b. made (block t b)))) i
  unfolding Each is_statement nesting_of
  as-block = starts (λ d o t b j (n, h). (omega arith, (refl, t, h)))

  as-if-then : Leads (statement_in (suc room)) kinds i (token K.IF (λ t. part conditions (λ c. token K.THEN (λ h. part (statements room) (λ s. made (if_then t c s)))))) i
  unfolding Each is_statement nesting_of
  as-if-then = starts (λ d o t c m h e s j (n, hs). (omega arith, (refl, t, (m, h, (e, hs)))))

  as-while : Leads (statement_in (suc room)) kinds i (token K.WHILE (λ t. part conditions (λ c. token K.DO (λ h. part (statements room) (λ s. made (while t c s)))))) i
  unfolding Each is_statement nesting_of
  as-while = starts (λ d o t c m h e s j (n, hs). (omega arith, (refl, t, (m, h, (e, hs)))))

  as-for : Leads (statement_in (suc room)) kinds i (token K.FOR (λ t.
      part assignments (λ a. token K.STEP (λ x. token K.NUMBER (λ v.
      token K.UNTIL (λ y. part operands (λ l. token K.DO (λ z. part (statements room) (λ s. made (for t a v l s)))))))))) i
  unfolding Each is_statement nesting_of
  as-for = starts (λ d o t a m h x v y l n hl z s j (r, hs). (omega arith, (refl, t, (m, h, (x, (refl, v, (y, (n, hl, (z, hs)))))))))

  as-case : Leads (statement_in (suc room)) kinds i (token K.CASE (λ t.
      token K.NAME (λ n. token K.OF (λ o. token K.BEGIN (λ b. part (choice_lists room) (λ xs. made (choose t n xs))))))) i
  unfolding Each is_statement nesting_of
  as-case = starts (λ d o t n f b xs j (r, h). (omega arith, (refl, t, (refl, n, (f, (b, h))))))

  as-choice : Leads (choices_in room) kinds i (part (statements room) (λ s. token K.SEMICOLON (λ c. part (choice_lists room) (λ xs. made (choice s xs))))) i
  unfolding Each is_statement nesting_of
  as-choice = starts (λ d o s m (n, h) c xs j (r, hs). (omega arith, (m, h, (c, hs))))

  as-label : Leads (items_in room) kinds i (token K.NAME (λ n. token K.COLON (λ c. part (item_lists room) (λ xs. made (label n xs))))) i
  unfolding Each is_statement nesting_of
  as-label = starts (λ d o n c xs j (r, h). (r, (refl, n, (c, h))))

  as-statement : Leads (items_in room) kinds i (part (statements room) (λ s. token K.SEMICOLON (λ c. part (item_lists room) (λ xs. made (item s xs))))) i
  unfolding Each is_statement nesting_of
  as-statement = starts (λ d o s m (n, h) c xs j (r, hs). (omega arith, (m, h, (c, hs))))

  as-declare : Leads (body_in room) kinds i (part declarations (λ d. token K.SEMICOLON (λ c. part (bodies room) (λ b. made (declare d b))))) i
  unfolding Each is_statement nesting_of
  as-declare = starts (λ _ o d m h c b j (n, hb). (n, (m, h, (c, hb))))

  as_items : Leads (body_in room) kinds i (part (item_lists room) (λ xs. made (items xs))) i
  unfolding Each is_statement nesting_of
  as_items = starts (λ d o xs j h. h)

-- what follows a procedure in a block
abbrev after_procedure : ℕ → Procedure → Sequence Body
after_procedure room p = token K.SEMICOLON (λ c. part (bodies room) (λ b. made (procedure p.name p.return p.body b)))

module _ {kinds : List ℕ} (room i : ℕ) where
  as-procedure-declared : Leads (body_in (suc room)) kinds i (part (procedures room) (after_procedure (suc room))) i
  unfolding Each is_statement nesting_of
  as-procedure-declared = starts (λ d o p m (n, h) c b j (r, hb). (omega arith, (m, h, (c, hb))))

-- "simple", the true part before an ELSE
abbrev simple_in : (room d : ℕ) → List ℕ → Statement → Part
simple_in room d kinds s = within (nesting_of s) (room + d) (only (simple s) (is_statement kinds s))

module _ {kinds : List ℕ} (room i : ℕ) where
  as-simple : Leads (simple_in room) kinds i (token K.NULL (λ t. made null)) i
  unfolding Each is_statement nesting_of
  as-simple = starts (λ d o t. (omega arith, (refl, (t, refl))))

abbrev simples : ℕ → Rule Statement
simples room = record {
  is = simple_in room;
  kept = λ s. keep-within _ _ (keep-only (simple s) (keep_statement s));
  more = λ d kinds s i j (n, h). (omega arith, h);
  some = λ d kinds i. leads-begins d (as-simple room i);
}

module _ {kinds : List ℕ} (room i : ℕ) where
  as-if-else : Leads (statement_in (suc room)) kinds i (token K.IF (λ t.
      part conditions (λ c. token K.THEN (λ h. part (simples room) (λ s. token K.ELSE (λ e. part (statements room) (λ u. made (if_else t c s e u)))))))) i
  unfolding Each is_statement nesting_of
  as-if-else = starts (λ d o t c m h e s n (p, hs) x u j (q, hu). (omega arith, (refl, t, (m, h, (e, (n, hs, (refl, x, hu)))))))

-- a statement that does not begin with IF, WHILE or FOR is simple
simple-begin : (kinds : List ℕ) (s : Statement) (i j : ℕ) → is_statement kinds s i j → member (get_or kinds i 0) compounds ≡ false → simple s ≡ true
unfolding is_statement
simple-begin kinds (assign a) i j h n = refl
simple-begin kinds (call t) i j h n = refl
simple-begin kinds (apply t a xs) i j h n = refl
simple-begin kinds (block t b) i j h n = refl
simple-begin kinds (goto t l) i j h n = refl
simple-begin kinds null i j h n = refl
simple-begin kinds (if_then t c s) i j h n = sym n ∙ rw h.1
simple-begin kinds (if_else t c s e u) i j h n = sym n ∙ rw h.1
simple-begin kinds (while t c s) i j h n = sym n ∙ rw h.1
simple-begin kinds (for t a v l s) i j h n = sym n ∙ rw h.1
simple-begin kinds (choose t n xs) i j h m = refl

module _ (kinds : List ℕ) where
  right-assign-or : (room n j : ℕ) (d : Option Designator) (s : Statement) → Targets kinds n j d → Leads (statement_in room) kinds n (made s) j
      → Right (statement_in room) kinds n (assign_or d s kinds j)
  unfolding assign_or
  right-assign-or room n j none s h l = gives l
  right-assign-or room n j (some d) s h l = reads _ (as-assign room n) (right-assigned kinds n j d h) (λ a m ha. gives)

  right-after-name : (room n : ℕ) → get_or kinds n 0 ≡ K.NAME → Right (statement_in room) kinds n (after_name n kinds (n + 1))
  unfolding after_name and_then look
  right-after-name room n h = reads _ (leads-token (as-use room n) h) (right-arguments kinds (suc (length kinds)) (n + 1)) (λ xs j hs l.
      either (has kinds j K.BECOMES) _ _ _ (λ b. right-assign-or room n j (target_of n xs) (use_of n xs) (row-targets kinds n j xs h hs) l) (λ b. gives l))

  right-statement-of : (room : ℕ) (construct : Reader Statement) (i : ℕ)
      → (member (get_or kinds i 0) openers ≡ true → Right (statement_in room) kinds i (construct kinds i))
      → Right (statement_in room) kinds i (statement_of construct kinds i)
  unfolding statement_of and_then look next
  right-statement-of room construct i right = either (member (get_or kinds i 0) openers) _ _ _ right
      (λ o. either (has kinds i K.NAME) _ _ _ (λ n. right-after-name room i (eqb-true _ _ n))
      (λ n. either (has kinds i K.GOTO) _ _ _ (λ g. wants _ (leads-token (as-goto room i) (eqb-true _ _ g)) (λ h. gives))
      (λ g. either (has kinds i K.NULL) _ _ _ (λ u. gives (leads-token (as-null room i) (eqb-true _ _ u))) (λ u. refuses (as-null room i)))))

  -- readers in a construct, of which those for what stands inside it are right
  module _ (room : ℕ) (inner : Reader Statement) (right-inner : (i : ℕ) → Right (statement_in room) kinds i (inner kinds i)) where
    -- "statement ;" and the rest of a block
    right-rest : (i p : ℕ) (s : Statement) (rest : Reader Items) → ((j : ℕ) → Right (items_in room) kinds j (rest kinds j))
        → Leads (items_in room) kinds i (token K.SEMICOLON (λ c. part (item_lists room) (λ xs. made (item s xs)))) p
        → Right (items_in room) kinds i (and_then (want K.SEMICOLON kinds p) (λ c j. and_then (rest kinds j) (λ xs k. ok (item s xs) k)))
    right-rest i p s rest right l = wants _ l (λ c l. reads _ l (right (p + 1)) (λ xs j h. gives))

    right-items : (fuel i : ℕ) → Right (items_in room) kinds i (items_of inner fuel kinds i)
    unfolding items_of and_then look next
    right-items zero i = refuses (as-ended room i)
    right-items (suc fuel) i =
        either (has kinds i K.END) _ _ _
        (λ e. gives (leads-token (as-ended room i) (eqb-true _ _ e)))
        (λ e. either (has kinds i K.NAME) _ _ _
        (λ n. either (has kinds (i + 1) K.COLON) _ _ _
        (λ c. reads _ (leads-token (leads-token (as-label room i) (eqb-true _ _ n)) (eqb-true _ _ c)) (right-items fuel (i + 1 + 1)) (λ xs j h. gives))
        (λ c. reads _ (as-statement room i) (right-after-name room i (eqb-true _ _ n)) (λ s m h. right-rest i m s (items_of inner fuel) (right-items fuel))))
        (λ n. reads _ (as-statement room i) (right-inner i) (λ s m h. right-rest i m s (items_of inner fuel) (right-items fuel))))

    right-choices : (fuel i : ℕ) → Right (choices_in room) kinds i (choices_of inner fuel kinds i)
    unfolding choices_of and_then look next
    right-choices zero i = refuses (as-over room i)
    right-choices (suc fuel) i = either (has kinds i K.END) _ _ _
        (λ e. gives (leads-token (as-over room i) (eqb-true _ _ e)))
        (λ e. reads _ (as-choice room i) (right-inner i) (λ s m h l. wants _ l (λ c l. reads _ l (right-choices fuel (m + 1)) (λ xs j hs. gives))))

    right-if : (i m : ℕ) (c : Condition) → get_or kinds i 0 ≡ K.IF → is_condition kinds c (i + 1) m → get_or kinds m 0 ≡ K.THEN → Right (statement_in (suc room)) kinds i (if_of inner i c kinds (m + 1))
    unfolding if_of and_then look next
    right-if i m c f h t =
        reads _ (leads-token (leads-part (leads-token (as-if-then room i) f) h) t) (right-inner (m + 1)) (λ s n hs l. either (has kinds n K.ELSE && not (member (get_or kinds (m + 1) 0) compounds)) _ _ _
        (λ e. let (x, y) = both _ _ e in
        reads _ (leads-token (leads-part (leads-token (leads-part (leads-token (as-if-else room i) f) h) t) (
          hs.0,
          (simple-begin kinds s (m + 1) n hs.1 (not-true _ y), hs.1),
        )) (eqb-true _ _ x)) (right-inner (n + 1)) (λ u j hu. gives))
        (λ e. gives l))

    -- the reader of a procedure, wherever PROCEDURE stands, is right as the beginning of what follows BEGIN
    module _ (proc : Reader Procedure) (right-proc : (i : ℕ) → get_or kinds i 0 ≡ K.PROCEDURE → (f : Procedure → ℕ → Result Body)
        → ((p : Procedure) (m : ℕ) → Leads (body_in room) kinds i (after_procedure room p) m → Right (body_in room) kinds i (f p m))
        → Right (body_in room) kinds i (and_then (proc kinds i) f)) where
      right-body : (fuel i : ℕ) → Right (body_in room) kinds i (body_of inner proc fuel kinds i)
      unfolding body_of and_then look next
      right-body zero i = refuses (as-no-declaration room i)
      right-body (suc fuel) i = either (member (get_or kinds i 0) declarators) _ _ _
          (λ d. reads _ (as-declare room i) (right-declaration kinds i) (λ x m h l. wants _ l (λ c l. reads _ l (right-body fuel (m + 1)) (λ b j hb. gives))))
          (λ d. either (has kinds i K.PROCEDURE) _ _ _
          (λ p. right-proc i (eqb-true _ _ p) _ (λ x m l. wants _ l (λ c l. reads _ l (right-body fuel (m + 1)) (λ b j hb. gives))))
          (λ p. reads _ (as_items room i) (right-items (suc (length kinds)) i) (λ xs j h. gives)))

      right-construct : (i : ℕ) → member (get_or kinds i 0) openers ≡ true → Right (statement_in (suc room)) kinds i (construct_of inner proc kinds i)
      unfolding construct_of and_then look next
      right-construct i o = either (has kinds i K.BEGIN) _ _ _
          (λ b. reads _ (leads-token (as-block room i) (eqb-true _ _ b)) (right-body (suc (length kinds)) (i + 1)) (λ x j h. gives))
          (λ b. either (has kinds i K.IF) _ _ _
          (λ f. reads _ (leads-token (as-if-then room i) (eqb-true _ _ f)) (right-condition kinds (i + 1)) (λ c m h l. wants _ l (λ t l. right-if i m c (eqb-true _ _ f) h t)))
          (λ f. either (has kinds i K.WHILE) _ _ _
          (λ w. reads _ (leads-token (as-while room i) (eqb-true _ _ w)) (right-condition kinds (i + 1)) (λ c m h l. wants _ l (λ d l. reads _ l (right-inner (m + 1)) (λ s j hs. gives))))
          (λ w. either (has kinds i K.CASE) _ _ _
          (λ x. wants _ (leads-token (as-case room i) (eqb-true _ _ x)) (λ n l. wants _ l (λ y l. wants _ l (λ z l.
          reads _ l (right-choices (suc (length kinds)) (i + 1 + 1 + 1 + 1)) (λ xs j h. gives)))))
          (λ x. let l = leads-token (as-for room i)
          (the_one _ _ (later (get_or kinds i 0) K.CASE (K.FOR ∷ []) (later (get_or kinds i 0) K.WHILE (K.CASE ∷ K.FOR ∷ [])
          (later (get_or kinds i 0) K.IF (K.WHILE ∷ K.CASE ∷ K.FOR ∷ []) (later (get_or kinds i 0) K.BEGIN (K.IF ∷ K.WHILE ∷ K.CASE ∷ K.FOR ∷ []) o b) f) w) x)) in
          needs _ _ l (λ n. reads _ l (right-assignment kinds (i + 1) n) (λ a m h l. wants _ l (λ x l. wants _ l (λ v l. wants _ l (λ y l.
          reads _ l (right_operand kinds (m + 1 + 1 + 1)) (λ t q ht l. wants _ l (λ z l. reads _ l (right-inner (q + 1)) (λ s j hs. gives))))))))))))

  -- refusal 5: without the word something could stand there, and with it one construct more
  module _ (i : ℕ) where
    opens : member (get_or kinds i 0) openers ≡ true → Begins (statement_in 1 0) kinds i (i + 1)
    opens o = each (λ k. get_or kinds i 0 ≡ k → Begins (statement_in 1 0) kinds i (i + 1)) openers (
      (λ e. leads-begins 0 (leads-token (as-block 0 i) e)),
      (
        (λ e. leads-begins 0 (leads-token (as-if-then 0 i) e)),
        (
          (λ e. leads-begins 0 (leads-token (as-while 0 i) e)),
          ((λ e. leads-begins 0 (leads-token (as-case 0 i) e)), ((λ e. leads-begins 0 (leads-token (as-for 0 i) e)), tt)),
        ),
      ),
    )
        (get_or kinds i 0) o refl

    too-deep : member (get_or kinds i 0) openers ≡ true → Right (statement_in 0) kinds i (bad 5 i)
    too-deep o = record {
      right = record {
        onward = omega arith;
        why = inr (
          refl,
          record {
            before = leads-begins 0 (as-null 0 i);
            there = opens o;
            word = each (λ k. member k constructs ≡ true) openers (refl, (refl, (refl, (refl, (refl, tt))))) (get_or kinds i 0) o;
          },
        );
      };
    }

    procedure-too-deep : get_or kinds i 0 ≡ K.PROCEDURE → Right (body_in 0) kinds i (bad 5 i)
    procedure-too-deep e = record {
      right = record {
        onward = omega arith;
        why = inr (
          refl,
          record {
            before = leads-begins 0 (as-no-declaration 0 i);
            there = part-begins 0 (as-procedure-declared 0 i) (omega arith) (leads-begins 0 (leads-token (as-procedure 0 i) e));
            word = rw e;
          },
        );
      };
    }

  mutual
    unfolding statement and_then look next

    right-statement : (room i : ℕ) → Right (statement_in room) kinds i (statement room kinds i)
    right-statement zero i = right-statement-of zero _ i (too-deep i)
    right-statement (suc room) i = right-statement-of (suc room) _ i (right-construct room (statement room) (λ j. right-statement room j) (procedure_of room)
        (λ j h f k. right-procedure room j h f k) i)

    right-procedure : (room i : ℕ) → get_or kinds i 0 ≡ K.PROCEDURE → (f : Procedure → ℕ → Result Body)
        → ((p : Procedure) (m : ℕ) → Leads (body_in room) kinds i (after_procedure room p) m → Right (body_in room) kinds i (f p m))
        → Right (body_in room) kinds i (and_then (procedure_of room kinds i) f)
    right-procedure zero i h f k = procedure-too-deep i h
    right-procedure (suc room) i h f k = reads f (as-procedure-declared room i)
        (wants _ (leads-token (as-procedure room i) h) (λ n l. wants-parens _ l (λ l. wants _ l (λ c l. reads _ l (right-statement room (i + 1 + 1 + 1 + 1 + 1 + 1)) (λ s j hs. gives)))))
        (λ p m hp. k p m)

-- ── "program = block @." ──

abbrev block_in : (room d : ℕ) → List ℕ → Statement → Part
block_in room d kinds x = within (nesting_of x) (room + d) (is_block kinds x)

module _ {kinds : List ℕ} (room i : ℕ) where
  as-whole-block : Leads (block_in (suc room)) kinds i (token K.BEGIN (λ t. part (bodies room) (λ b. made (block t b)))) i
  unfolding Each is_statement nesting_of
  as-whole-block = starts (λ d o t b j (n, h). (omega arith, ((i, b, refl), (refl, t, h))))

abbrev blocks : ℕ → Rule Statement
blocks room = record {
  is = block_in (suc room);
  kept = λ x. keep-within _ _ (keep-block x);
  more = λ d kinds x i j (n, h). (omega arith, h);
  some = λ d kinds i. leads-begins d (as-whole-block room i);
}

module _ {kinds : List ℕ} (room i : ℕ) where
  as-program : Leads (λ d. is_program_within (suc room + d)) kinds i (part (blocks room) (λ x. token K.AT (λ t. made x))) i
  unfolding Each is_program
  as-program = starts (λ d o x m (n, h) t. (n, (m, h, (t, refl))))

module _ (kinds : List ℕ) where
  right-block : (room i : ℕ) → get_or kinds i 0 ≡ K.BEGIN → Right (block_in (suc room)) kinds i (statement (suc room) kinds i)
  unfolding statement statement_of construct_of and_then look next
  right-block room i h = either (member (get_or kinds i 0) openers) _ _ _
      (λ o. either (has kinds i K.BEGIN) _ _ _
      (λ b. reads _ (leads-token (as-whole-block room i) h)
      (right-body kinds room (statement room) (right-statement kinds room) (procedure_of room) (right-procedure kinds room) (suc (length kinds)) (i + 1))
      (λ x j hx. gives))
      (λ b. never_true (sym b ∙ eq-eqb _ _ h)))
      (λ o. never_true (sym o ∙ rw h))

  pub right-program : (i : ℕ) → Right (λ d. is_program_within (nesting + d)) kinds i (program kinds i)
  unfolding program and_then look
  right-program i = either (has kinds i K.BEGIN) _ _ _
      (λ b. reads _ (as-program 63 i) (right-block 63 i (eqb-true _ _ b)) (λ x m h l. wants _ l (λ t. gives)))
      (λ b. refuses (as-program 63 i))

-- ── no reader goes back: what the lists "{…}" answer lies where they begin or later ──

module _ (kinds : List ℕ) where
  pub onward-terms : (fuel i : ℕ) → i ≤ reach (terms fuel kinds i)
  onward-terms fuel i = right-onward keep-terms (right-terms kinds fuel i)

  pub onward-numbers : (fuel i : ℕ) → i ≤ reach (numbers fuel kinds i)
  onward-numbers fuel i = right-onward keep-numbers (right-numbers kinds fuel i)

  pub onward-arguments : (fuel i : ℕ) → i ≤ reach (arguments fuel kinds i)
  onward-arguments fuel i = right-onward keep-arguments (right-arguments kinds fuel i)

  pub onward-cells : (fuel i : ℕ) → length kinds ≤ fuel + i → i ≤ reach (list_of cell_item (suc fuel) kinds i)
  onward-cells fuel i enough = right-onward ((lists cell_items).kept {d = 0}) (right-list cell_items kinds _ (right-item kinds) fuel i (omega arith))

  pub onward-registers : (fuel i : ℕ) → length kinds ≤ fuel + i → i ≤ reach (list_of register_item (suc fuel) kinds i)
  onward-registers fuel i enough = right-onward ((lists register_items).kept {d = 0}) (right-list register_items kinds _ (right-register kinds) fuel i (omega arith))

  pub onward-items : (room fuel i : ℕ) → i ≤ reach (items_of (statement room) fuel kinds i)
  onward-items room fuel i = right-onward (item_lists room).kept (right-items kinds room (statement room) (right-statement kinds room) fuel i)

  pub onward-choices : (room fuel i : ℕ) → i ≤ reach (choices_of (statement room) fuel kinds i)
  onward-choices room fuel i = right-onward (choice_lists room).kept (right-choices kinds room (statement room) (right-statement kinds room) fuel i)

  pub onward-body : (room fuel i : ℕ) → i ≤ reach (body_of (statement room) (procedure_of room) fuel kinds i)
  onward-body room fuel i = right-onward (bodies room).kept (right-body kinds room (statement room) (right-statement kinds room) (procedure_of room) (right-procedure kinds room) fuel i)
