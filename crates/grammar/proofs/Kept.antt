-- What is derived from one token up to another begins no later than it ends, and depends on the tokens between alone: it stands too wherever the tokens
-- before its end are the same. Assumes nothing.
use mathlib.Core.Path.{◌≡◌, ◌∙◌}
use mathlib.Core.List.{List, [], ◌∷◌}
use mathlib.Core.Bool.{Bool, true, false}
use mathlib.Core.Option.{Option, none, some}
use Prim.Native.Nat.{ℕ, ◌≤◌, ◌<◌}
use native.Mathlib.Omega.{arith}
use lib.ListN.{get_or}
use Rattle.base.specs.Lists.{member}
use Rattle.token.specs.Kinds as K
use Rattle.grammar.specs.Tree.{Designator, Operand, number, place, Sign, plain, abs, neg, neg_abs, Term, Assignment, Condition, compared, bare, Width, full, short, byte, Register, Item, Declaration, registers, cells, base, Statement, assign, call, apply, block, goto, null, if_then, if_else, while, for, choose, Body, declare, procedure, items, Items, ended, label, item, Choices, over, choice}
use Rattle.grammar.specs.Grammar.{relations, operators}
use Rattle.grammar.specs.Derives.{integer_or_logical, Part, end, never, ◌⟫◌, only, ◌▸◌, ◌#◌▸◌, ◌∋▸◌, ◌∋◌▸◌, is_shape, is_designator, is_operand, is_condition, is_sign, are_terms, is_assignment, are_numbers, is_item, is_register, are_more, are_some, is_type, is_declaration, simple, is_procedure, are_arguments, is_statement, is_body, is_items, are_choices, is_block, is_program, within, SameBefore}

-- what p says of a list of kinds begins no later than it ends, and q says it of another where the tokens before the end are the same
pub record Kept (kinds others : List ℕ) (p q : Part) : Type 0 where
  pub rises : {i j : ℕ} → p i j → i ≤ j
  pub stays : {i j : ℕ} → SameBefore j kinds others → p i j → q i j

module _ {kinds others : List ℕ} where
  pub fewer : {m n : ℕ} → m ≤ n → SameBefore n kinds others → SameBefore m kinds others
  fewer le s = record { same = λ t h. s.same t (omega arith) }

  kind-stays : {i j : ℕ} {k : ℕ} → SameBefore j kinds others → i < j → get_or kinds i 0 ≡ k → get_or others i 0 ≡ k
  kind-stays {i} s h e = s.same i h ∙ e

  one-stays : {i j : ℕ} (ks : List ℕ) → SameBefore j kinds others → i < j → member (get_or kinds i 0) ks ≡ true → member (get_or others i 0) ks ≡ true
  one-stays {i} ks s h e = rw (s.same i h) e

  keep-end : Kept kinds others end end
  keep-end = record { rises = λ e. omega arith; stays = λ s e. e }

  keep-never : Kept kinds others never never
  keep-never = record { rises = λ n. absurd n; stays = λ s n. absurd n }

  pub keep-only : {p q : Part} (t : Bool) → Kept kinds others p q → Kept kinds others (only t p) (only t q)
  keep-only t h = record { rises = λ (e, r). h.rises r; stays = λ s (e, r). (e, h.stays s r) }

  pub keep-within : {p q : Part} (its most : ℕ) → Kept kinds others p q → Kept kinds others (within its most p) (within its most q)
  keep-within its most h = record { rises = λ (e, r). h.rises r; stays = λ s (e, r). (e, h.stays s r) }

  keep-token : {p q : Part} (k : ℕ) → Kept kinds others p q → Kept kinds others (◌▸◌ kinds k p) (◌▸◌ others k q)
  keep-token k h = record {
    rises = λ (e, r). (let l = h.rises r in omega arith);
    stays = λ s (e, r). (let l = h.rises r in (kind-stays s (omega arith) e, h.stays s r));
  }

  keep-number : {p q : Part} (k n : ℕ) → Kept kinds others p q → Kept kinds others (◌#◌▸◌ kinds k n p) (◌#◌▸◌ others k n q)
  keep-number k n h = record {
    rises = λ (z, e, r). (let l = h.rises r in omega arith);
    stays = λ s (z, e, r). (let l = h.rises r in (z, kind-stays s (omega arith) e, h.stays s r));
  }

  keep_one : {p q : Part} (ks : List ℕ) → Kept kinds others p q → Kept kinds others (◌∋▸◌ kinds ks p) (◌∋▸◌ others ks q)
  keep_one ks h = record {
    rises = λ (e, r). (let l = h.rises r in omega arith);
    stays = λ s (e, r). (let l = h.rises r in (one-stays ks s (omega arith) e, h.stays s r));
  }

  keep-one-number : {p q : Part} (ks : List ℕ) (n : ℕ) → Kept kinds others p q → Kept kinds others (◌∋◌▸◌ kinds ks n p) (◌∋◌▸◌ others ks n q)
  keep-one-number ks n h = record {
    rises = λ (z, e, r). (let l = h.rises r in omega arith);
    stays = λ s (z, e, r). (let l = h.rises r in (z, one-stays ks s (omega arith) e, h.stays s r));
  }

  keep-then : {p q p' q' : Part} → Kept kinds others p q → Kept kinds others p' q' → Kept kinds others (p ⟫ p') (q ⟫ q')
  keep-then h k = record {
    rises = λ (m, x, y). (let a = h.rises x in let b = k.rises y in omega arith);
    stays = λ s (m, x, y). (m, h.stays (fewer (k.rises y) s) x, k.stays s y);
  }

  keep_shape : (n : ℕ) (s x : Option ℕ) → Kept kinds others (is_shape kinds n s x) (is_shape others n s x)
  keep_shape n none none = keep-number _ n keep-end
  keep_shape n none (some x) = keep-number _ n (keep-token _ (keep-number _ x (keep-token _ keep-end)))
  keep_shape n (some s) none = keep-number _ n (keep-token _ (keep-number _ s (keep-token _ keep-end)))
  keep_shape n (some s) (some x) = keep-number _ n (keep-token _ (keep-number _ s (keep-token _ (keep-token _ (keep-number _ x (keep-token _ keep-end))))))

  pub keep-designator : (d : Designator) → Kept kinds others (is_designator kinds d) (is_designator others d)
  unfolding is_designator
  keep-designator d = keep_shape d.name d.subscript d.index

  pub keep-operand : (a : Operand) → Kept kinds others (is_operand kinds a) (is_operand others a)
  unfolding is_operand
  keep-operand (number t) = keep-number _ t keep-end
  keep-operand (place d) = keep-designator d

  pub keep-condition : (c : Condition) → Kept kinds others (is_condition kinds c) (is_condition others c)
  unfolding is_condition
  keep-condition (compared n r a) = keep-number _ n (keep-one-number relations r (keep-operand a))
  keep-condition (bare r) = keep-one-number (K.OVERFLOW ∷ relations) r keep-end

  pub keep-sign : (s : Sign) → Kept kinds others (is_sign kinds s) (is_sign others s)
  unfolding is_sign
  keep-sign plain = keep-end
  keep-sign (abs t) = keep-number _ t keep-end
  keep-sign (neg t) = keep-number _ t keep-end
  keep-sign (neg_abs t) = keep-number _ t (keep-token _ keep-end)

  pub keep-terms : (ts : List Term) → Kept kinds others (are_terms kinds ts) (are_terms others ts)
  unfolding are_terms
  keep-terms [] = keep-end
  keep-terms (t ∷ ts) = keep-one-number operators t.operator (keep-then (keep-operand t.operand) (keep-terms ts))

  pub keep-assignment : (a : Assignment) → Kept kinds others (is_assignment kinds a) (is_assignment others a)
  unfolding is_assignment
  keep-assignment a = keep-then (keep-designator a.target) (keep-token _ (keep-then (keep-sign a.sign) (keep-then (keep-operand a.first) (keep-terms a.rest))))

  pub keep-numbers : (ts : List ℕ) → Kept kinds others (are_numbers kinds ts) (are_numbers others ts)
  unfolding are_numbers
  keep-numbers [] = keep-end
  keep-numbers (t ∷ ts) = keep-token _ (keep-number _ t (keep-token _ (keep-numbers ts)))

  pub keep-item : (x : Item) → Kept kinds others (is_item kinds x) (is_item others x)
  unfolding is_item
  keep-item x = keep-number _ x.name (keep-numbers x.numbers)

  pub keep-register : (r : Register) → Kept kinds others (is_register kinds r) (is_register others r)
  unfolding is_register
  keep-register r = keep-number _ r.name (keep-token _ (keep-number _ r.number (keep-token _ keep-end)))

  pub keep-more : {A : Type 0} (p q : A → Part) → ((x : A) → Kept kinds others (p x) (q x)) → (xs : List A) → Kept kinds others (are_more kinds p xs) (are_more others q xs)
  unfolding are_more
  keep-more p q h [] = keep-end
  keep-more p q h (x ∷ xs) = keep-token _ (keep-then (h x) (keep-more p q h xs))

  pub keep_some : {A : Type 0} (p q : A → Part) → ((x : A) → Kept kinds others (p x) (q x)) → (xs : List A) → Kept kinds others (are_some kinds p xs) (are_some others q xs)
  unfolding are_some
  keep_some p q h [] = keep-never
  keep_some p q h (x ∷ xs) = keep-then (h x) (keep-more p q h xs)

  pub keep-type : (w : Width) → Kept kinds others (is_type kinds w) (is_type others w)
  unfolding is_type
  keep-type full = keep_one integer_or_logical keep-end
  keep-type short = keep-token _ (keep-token _ keep-end)
  keep-type (byte false) = keep-token _ keep-end
  keep-type (byte true) = keep-token _ keep-end

  pub keep-declaration : (d : Declaration) → Kept kinds others (is_declaration kinds d) (is_declaration others d)
  unfolding is_declaration
  keep-declaration (registers rs) = keep_one integer_or_logical (keep-token _ (keep_some _ _ keep-register rs))
  keep-declaration (cells none w xs) = keep-then (keep-type w) (keep_some _ _ keep-item xs)
  keep-declaration (cells (some c) w xs) = keep-token _ (keep-token _ (keep-number _ c (keep-token _ (keep-then (keep-type w) (keep_some _ _ keep-item xs)))))
  keep-declaration (base n) = keep-token _ (keep-token _ (keep-number _ n keep-end))

  pub keep-procedure : (n r : ℕ) {p q : Part} → Kept kinds others p q → Kept kinds others (is_procedure kinds n r p) (is_procedure others n r q)
  keep-procedure n r h = keep-token _ (keep-number _ n (keep-token _ (keep-number _ r (keep-token _ (keep-token _ h)))))

  pub keep-arguments : (xs : List Operand) → Kept kinds others (are_arguments kinds xs) (are_arguments others xs)
  unfolding are_arguments
  keep-arguments [] = keep-end
  keep-arguments (a ∷ xs) = keep-token _ (keep-then (keep-operand a) (keep-token _ (keep-arguments xs)))

  mutual
    unfolding is_statement

    pub keep_statement : (x : Statement) → Kept kinds others (is_statement kinds x) (is_statement others x)
    keep_statement (assign a) = keep-assignment a
    keep_statement (call n) = keep-number _ n keep-end
    keep_statement (apply n a xs) = keep-number _ n (keep-arguments (a ∷ xs))
    keep_statement (block t b) = keep-number _ t (keep_body b)
    keep_statement (goto t n) = keep-number _ t (keep-number _ n keep-end)
    keep_statement null = keep-token _ keep-end
    keep_statement (if_then t c s) = keep-number _ t (keep-then (keep-condition c) (keep-token _ (keep_statement s)))
    keep_statement (if_else t c s e u) = keep-number _ t (keep-then (keep-condition c) (keep-token _ (keep-then (keep-only (simple s) (keep_statement s)) (keep-number _ e (keep_statement u)))))
    keep_statement (while t c s) = keep-number _ t (keep-then (keep-condition c) (keep-token _ (keep_statement s)))
    keep_statement (for t a v l s) = keep-number _ t (keep-then (keep-assignment a) (keep-token _ (keep-number _ v (keep-token _ (keep-then (keep-operand l) (keep-token _ (keep_statement s)))))))
    keep_statement (choose t n xs) = keep-number _ t (keep-number _ n (keep-token _ (keep-token _ (keep-choices xs))))

    pub keep_body : (b : Body) → Kept kinds others (is_body kinds b) (is_body others b)
    keep_body (declare d b) = keep-then (keep-declaration d) (keep-token _ (keep_body b))
    keep_body (procedure n r s b) = keep-then (keep-procedure n r (keep_statement s)) (keep-token _ (keep_body b))
    keep_body (items xs) = keep-items xs

    pub keep-items : (xs : Items) → Kept kinds others (is_items kinds xs) (is_items others xs)
    keep-items ended = keep-token _ keep-end
    keep-items (label n xs) = keep-number _ n (keep-token _ (keep-items xs))
    keep-items (item s xs) = keep-then (keep_statement s) (keep-token _ (keep-items xs))

    pub keep-choices : (xs : Choices) → Kept kinds others (are_choices kinds xs) (are_choices others xs)
    keep-choices over = keep-token _ keep-end
    keep-choices (choice s xs) = keep-then (keep_statement s) (keep-token _ (keep-choices xs))

  pub keep-block : (x : Statement) → Kept kinds others (is_block kinds x) (is_block others x)
  keep-block x = record { rises = λ (e, r). (keep_statement x).rises r; stays = λ s (e, r). (e, (keep_statement x).stays s r) }

  pub keep-program : (x : Statement) → Kept kinds others (is_program kinds x) (is_program others x)
  unfolding is_program
  keep-program x = keep-then (keep-block x) (keep-token _ keep-end)
