-- What each rule function answers is the definition's rule, by what its callees answer.
use mathlib.Core.Path.{◌≡◌, refl, sym, ap, ap₂, ◌∙◌}
use mathlib.Core.Bool.{Bool, true, false, ◌&&◌, ◌||◌, not}
use mathlib.Core.List.{List}
use mathlib.Core.Option.{Option, none, some}
use Prim.Native.Nat.{ℕ, ◌+◌, ◌-◌, ◌%◌}
use lib.Dec.{eqb, leb}
use lib.ListN.{get_or}
use borrow.Author.Tests.{ne_eqb}
use Rattle.base.specs.Choose.{whether◌then◌else◌}
use Rattle.base.specs.Lists.{member}
use Rattle.base.proofs.Tests.{never_true}
use Rattle.token.specs.Kinds as K
use Rattle.grammar.specs.Tree.{number, place}
use Rattle.ledger.specs.Book.{Wide, Thin}
use Rattle.scopes.specs.declared.Refusal.TheVariants.{Misfit, WrongRegister, Protected, OutOfBounds, NoRoom}
use Rattle.scopes.specs.Broken.{Ruling, unbroken, rule, broken, ◌⊕◌}
use Rattle.scopes.proofs.Joins.{join-assoc}
use Rattle.static_rules.specs.Registers.{spares}
use Rattle.static_rules.specs.Functions.{Argument, Function, function_at, arity, argument_at}
use Rattle.static_rules.specs.Meaning.{Meaning, cell, Based, Cell, argument_of, register_of, is_long, long_operand}
use Rattle.static_rules.specs.Tables.{Tables, meaning_at}
use Rattle.static_rules.specs.Rules.{is_register, is_zero, is_cell, is_bare, inside, shifts, full_only, write_rule, register_rule, zero_rule, index_rules, subscript_rules, place_by, place_rules, operand_rules, only_register, shift_rules, no_byte, no_short, product_rules, term_rules, call_by, call_rules, no_index, target_by, count_by, taken_rules, base_rules}
use Rattle.functions.specs.Arguments.{function_in}
use Rattle.functions.proofs.Packed.{meant_is}
use Rattle.tables.specs.Packed.{number_in, is_register_in, is_routine_in, is_cell_in, is_function_in, is_short_in, is_byte_in, cell_in, unpacked, register_in, long_in, packed_at, set_of}
use Rattle.tables.proofs.Meanings.{by-sort, as-register, as-routine, as-cell, as_function, register-is, long-is}
use Rattle.tables.proofs.Sets.{sets-at}
use Rattle.rules.specs.Parts.{subscript_at, index_at, designator_at, operand_at, term_at}
use Rattle.rules.specs.Shows.{Listed}
use Rattle.rules.proofs.Sorts.{register-sort, short-sort, byte-sort, cell-sort, base_at, meant-at}

or-none : (x : Bool) → x ≡ (x || false)
or-none true = refl
or-none false = refl

pub shift_is : (k : ℕ) → (eqb k K.SHLL || (eqb k K.SHRL || (eqb k K.SHLA || eqb k K.SHRA))) ≡ member k shifts
shift_is k = ap (λ (x : Bool). eqb k K.SHLL || (eqb k K.SHRL || (eqb k K.SHLA || x))) (or-none (eqb k K.SHRA))

pub full-only-is :
    (k : ℕ) → (eqb k K.AND || (eqb k K.OR || (eqb k K.XOR || (eqb k K.ADD-LOGICAL || eqb k K.SUBTRACT-LOGICAL)))) ≡ member k full_only
full-only-is k = ap (λ (x : Bool). eqb k K.AND || (eqb k K.OR || (eqb k K.XOR || (eqb k K.ADD-LOGICAL || x)))) (or-none (eqb k K.SUBTRACT-LOGICAL))

abbrev OfMeaning : ℕ → Ruling → (Meaning → Ruling) → Type 0
OfMeaning m x f = (n : ℕ) (b : Based) → x ≡ f (unpacked n m b)

-- ── parts of a designator ──

module _ (f : Tables) (t shape : ℕ) where
  pub subscripted : {v : ℕ} {x : Ruling} {y : Bool} (m : ℕ) (values : List ℕ) → f.values ≡ values → (eqb shape 1 || eqb shape 3) ≡ true → v ≡ get_or values (t + 2) 0
      → ((n : ℕ) (b : Based) → y ≡ inside (cell_in n m b) v) → x ≡ rule y OutOfBounds (t + 2) → (n : ℕ) (b : Based) → x ≡ subscript_rules f (cell_in n m b) (subscript_at shape t)
  unfolding subscript_at subscript_rules
  subscripted m values s h e g k n b = rw (h, s, ← e) (k ∙ ap (λ (z : Bool). rule z OutOfBounds (t + 2)) (g n b))

  pub no-subscript : {x : Ruling} → (eqb shape 1 || eqb shape 3) ≡ false → x ≡ unbroken → (c : Cell) → x ≡ subscript_rules f c (subscript_at shape t)
  unfolding subscript_at subscript_rules
  no-subscript h e c = rw h e

  pub indexed : {x : Ruling} (a : ℕ) → index_at shape t ≡ some a → x ≡ register_rule f a ⊕ zero_rule f a → x ≡ index_rules f (index_at shape t)
  unfolding index_rules
  indexed a h e = rw h e

  pub no_index_lem : {x : Ruling} → index_at shape t ≡ none → x ≡ unbroken → x ≡ index_rules f (index_at shape t)
  unfolding index_rules
  no_index_lem h e = rw h e

pub index-two : (shape t : ℕ) → shape ≡ 2 → index_at shape t ≡ some (t + 2)
unfolding index_at
index-two shape t e = rw e

pub index-five : (shape t : ℕ) → shape ≡ 3 → index_at shape t ≡ some (t + 5)
unfolding index_at
index-five shape t e = rw e

pub index-none : (shape t : ℕ) → (shape ≡ 2 → ⊥) → (shape ≡ 3 → ⊥) → index_at shape t ≡ none
unfolding index_at
index-none shape t m n = rw (ne_eqb shape 2 m, ne_eqb shape 3 n)

-- an index that may not stand, at its name
pub plainly : (shape t : ℕ) {o : Option ℕ} {x : Ruling} → index_at shape t ≡ o → x ≡ no_index o → x ≡ no_index (index_at shape t)
plainly shape t h e = rw h e

pub a-number : (shape t : ℕ) → shape ≡ 4 → operand_at shape t ≡ number t
unfolding operand_at
a-number shape t e = rw e

pub a-place : (shape t : ℕ) → (shape ≡ 4 → ⊥) → operand_at shape t ≡ place (designator_at shape t)
unfolding operand_at
a-place shape t n = rw (ne_eqb shape 4 n)

-- ── by what the name at token t means ──

module _ {f : Tables} {w : Wide} {l : Thin} (s : Listed f w l) (t m : ℕ) (e : m ≡ packed_at l.found w.means t) where
  at : (g : Meaning → Ruling) {x : Ruling} → OfMeaning m x g → x ≡ g (meaning_at f t)
  at g p = p _ _ ∙ ap g (sym (meant-at s t m e))

  pub a-register : {x : Ruling} → OfMeaning m x (λ y. rule (is_register y) Misfit t) → x ≡ register_rule f t
  unfolding register_rule
  a-register p = at (λ (y : Meaning). rule (is_register y) Misfit t) p

  pub no_zero : {x : Ruling} → OfMeaning m x (λ y. rule (not (is_zero y)) WrongRegister t) → x ≡ zero_rule f t
  unfolding zero_rule
  no_zero p = at (λ (y : Meaning). rule (not (is_zero y)) WrongRegister t) p

  pub placed-register : (shape : ℕ) {x : Ruling} {bare : Bool} → is_register_in m ≡ true → ((u : ℕ) → bare ≡ is_bare (subscript_at shape u) (index_at shape u))
      → x ≡ rule bare Misfit t → x ≡ place_rules f (designator_at shape t)
  unfolding place_rules
  placed-register shape h p q = rw (meant-at s t m e, as-register (get_or l.found t 0) m (base_at s t) h) (q ∙ ap (λ (z : Bool). rule z Misfit t) (p t))

  pub placed-cell : (shape : ℕ) {x : Ruling} → is_cell_in m ≡ true → ((n : ℕ) (b : Based) → x ≡ place_by f (cell (cell_in n m b)) (designator_at shape t)) → x ≡ place_rules f (designator_at shape t)
  unfolding place_rules
  placed-cell shape h p = rw (meant-at s t m e, as-cell (get_or l.found t 0) m (base_at s t) h) (p _ _)

  pub placed-nowhere : (shape : ℕ) {x : Ruling} → is_register_in m ≡ false → is_cell_in m ≡ false → x ≡ broken Misfit t → x ≡ place_rules f (designator_at shape t)
  unfolding place_rules
  placed-nowhere shape n h q =
      q ∙ at (λ (y : Meaning). place_by f y (designator_at shape t))
      (λ k b. by-sort (λ y. broken Misfit t ≡ place_by f y (designator_at shape t)) k m b (λ a. never_true (sym n ∙ a)) (λ a b. refl) (λ a b c. never_true (sym h ∙ c))
      (λ a b c d. refl) (λ a b c d. refl))

  pub one-register : (shape : ℕ) {x : Ruling} {r bare : Bool} → (shape ≡ 4 → ⊥) → r ≡ is_register_in m → ((u : ℕ) → bare ≡ is_bare (subscript_at shape u) (index_at shape u)) → x ≡ rule (r && bare) Misfit t
      → x ≡ only_register f (operand_at shape t)
  unfolding only_register
  one-register shape n r p q =
      rw (a-place shape t n, meant-at s t m e) (q ∙ ap₂ (λ (y z : Bool). rule (y && z) Misfit t) (r ∙ register-sort (get_or l.found t 0) m (base_at s t)) (p t))

  pub not_short : (shape : ℕ) {x : Ruling} {c w : Bool} → (shape ≡ 4 → ⊥) → c ≡ is_cell_in m → w ≡ is_short_in m → x ≡ rule (not (c && w)) Misfit t → x ≡ no_short f (operand_at shape t)
  unfolding no_short
  not_short shape n c w q = rw (a-place shape t n, meant-at s t m e) (q ∙ ap (λ (y : Bool). rule (not y) Misfit t) (ap₂ (λ (y z : Bool). y && z) c w ∙ short-sort (get_or l.found t 0) m (base_at s t)))

  pub not_byte : (shape : ℕ) {x : Ruling} {c w : Bool} → c ≡ is_cell_in m → w ≡ is_byte_in m → x ≡ rule (not (c && w)) Misfit t → x ≡ no_byte f (designator_at shape t)
  unfolding no_byte
  not_byte shape c w q = rw (meant-at s t m e) (q ∙ ap (λ (y : Bool). rule (not y) Misfit t) (ap₂ (λ (y z : Bool). y && z) c w ∙ byte-sort (get_or l.found t 0) m (base_at s t)))

  pub a-cell : {x : Ruling} {c : Bool} → c ≡ is_cell_in m → x ≡ rule c Misfit t → x ≡ rule (is_cell (meaning_at f t)) Misfit t
  a-cell h q = rw (meant-at s t m e) (q ∙ ap (λ (y : Bool). rule y Misfit t) (h ∙ cell-sort (get_or l.found t 0) m (base_at s t)))

  pub writes-register : (kept : List ℕ) {x : Ruling} {r : ℕ} → is_register_in m ≡ true → r ≡ number_in m → x ≡ write_rule kept r t → x ≡ target_by f (meaning_at f t) kept t
  writes-register kept h g q = rw (meant-at s t m e, as-register (get_or l.found t 0) m (base_at s t) h, ← g) q

  pub writes-none : (kept : List ℕ) {x : Ruling} → is_register_in m ≡ false → x ≡ unbroken → x ≡ target_by f (meaning_at f t) kept t
  writes-none kept h q =
      q ∙ at (λ (y : Meaning). target_by f y kept t)
      (λ k b. by-sort (λ y. unbroken ≡ target_by f y kept t) k m b (λ a. never_true (sym h ∙ a)) (λ a b. refl) (λ a b c. refl) (λ a b c d. refl) (λ a b c d. refl))

  pub takes_at : (p : ℕ) {a : Argument} → a ≡ argument_at (function_in m) p → a ≡ argument_of (meaning_at f t) p
  takes_at p q = rw (meant-at s t m e) (q ∙ ap (λ (y : Function). argument_at y p) (sym (meant_is (get_or l.found t 0) m (base_at s t))))

  pub counts-function : (count : ℕ) {a : ℕ} {x : Ruling} → is_function_in m ≡ true → a ≡ arity (function_in m) → x ≡ rule (eqb count a) Misfit t
      → x ≡ count_by (meaning_at f t) t count
  unfolding function_in
  counts-function count h i q =
      let j : arity (function_in m) ≡ arity (function_at (number_in m)) = rw h in
      rw (meant-at s t m e, as_function (get_or l.found t 0) m (base_at s t) h, ← j, ← i) q

  pub counts-none : (count : ℕ) {x : Ruling} → is_function_in m ≡ false → x ≡ broken Misfit t → x ≡ count_by (meaning_at f t) t count
  counts-none count h q =
      q ∙ at (λ (y : Meaning). count_by y t count)
      (λ k b. by-sort (λ y. broken Misfit t ≡ count_by y t count) k m b (λ a. refl) (λ a b. refl) (λ a b c. refl) (λ a b c d. never_true (sym h ∙ d)) (λ a b c d. refl))

  long-is-at : (shape : ℕ) (l : Bool) → l ≡ long_in m → long_operand f.found f.means (operand_at shape t) ≡ (eqb shape 4 || l)
  unfolding operand_at
  long-is-at shape l h = go (eqb shape 4)
    where
      go : (x : Bool) → long_operand f.found f.means (whether x then number t else place (designator_at shape t)) ≡ (x || l)
      go true = refl
      go false = ap is_long (meant-at s t m e) ∙ (long-is _ _ _ ∙ sym h)

  pub a-product :
      (shape : ℕ) (kept : List ℕ) (r : ℕ) {l : Bool} {o u : ℕ} {x y z : Ruling} → l ≡ long_in m → (eqb shape 4 || l) ≡ true → o ≡ t - 1 → u ≡ r - 1
      → x ≡ rule (eqb (r % 2) 1) WrongRegister o → y ≡ write_rule kept u o → z ≡ x ⊕ y → z ≡ product_rules f kept r (term_at shape t)
  unfolding product_rules
  a-product shape kept r {l} h k p q a b c = rw (long-is-at shape l h, k, ← p, ← q) (c ∙ ap₂ (λ (v w : Ruling). v ⊕ w) a b)

  pub no-product : (shape : ℕ) (kept : List ℕ) (r : ℕ) {l : Bool} {z : Ruling} → l ≡ long_in m → (eqb shape 4 || l) ≡ false → z ≡ unbroken → z ≡ product_rules f kept r (term_at shape t)
  unfolding product_rules
  no-product shape kept r {l} h k c = rw (long-is-at shape l h, k) c

  pub a-taken :
      (kept : List ℕ) {r : ℕ} {x y z : Ruling} → r ≡ register_in m → x ≡ register_rule f t ⊕ zero_rule f t → y ≡ write_rule kept r t → z ≡ x ⊕ y → z ≡ taken_rules f kept t
  unfolding taken_rules
  a-taken kept g p q z =
      z ∙ (ap₂ (λ (j k : Ruling). j ⊕ k) p (q ∙ ap (λ (k : ℕ). write_rule kept k t) (g ∙ sym (ap register_of (meant-at s t m e) ∙ register-is _ _ _)))
      ∙ join-assoc (register_rule f t) (zero_rule f t) (write_rule kept (register_of (meaning_at f t)) t))

-- ── base declarations ──

pub a-base :
    {f : Tables} {w : Wide} {l : Thin} (s : Listed f w l) (kept : List ℕ) (t : ℕ) {o : ℕ} {x y z : Ruling} → x ≡ taken_rules f kept t → o ≡ get_or l.opens t 0
    → y ≡ rule (leb o 3) NoRoom t → z ≡ x ⊕ y → z ≡ base_rules f kept t
unfolding base_rules
a-base s kept t p h q z = z ∙ ap₂ (λ (j k : Ruling). j ⊕ k) p (q ∙ rw (s.opens-is, ← h))

-- ── calls ──

module _ {f : Tables} {w : Wide} {l : Thin} (s : Listed f w l) (kept : List ℕ) (t p m : ℕ) (e : p ≡ get_or l.found t 0) (g : m ≡ get_or w.means p 0) where
  packed-is : m ≡ packed_at l.found w.means t
  packed-is = g ∙ ap (λ (k : ℕ). get_or w.means k 0) e

  pub called :
      {r u : ℕ} {y : Bool} {a b c : Ruling} → is_routine_in m ≡ true → r ≡ number_in m → u ≡ get_or l.written p 0 → y ≡ spares (set_of u) kept
      → a ≡ write_rule kept r t → b ≡ rule y Protected t → c ≡ a ⊕ b → c ≡ call_rules f kept t
  unfolding call_rules
  called {r} {u} h i j k a b c =
      rw (meant-at s t m packed-is, as-routine (get_or l.found t 0) m (base_at s t) h, s.written_is, s.found-is, ← e, sets-at l.written p, ← j, ← k, ← i) (c ∙ ap₂ (λ (v z : Ruling). v ⊕ z) a b)

  pub no-routine : {x : Ruling} → is_routine_in m ≡ false → x ≡ broken Misfit t → x ≡ call_rules f kept t
  unfolding call_rules
  no-routine n q =
      q ∙ at s t m packed-is (λ (y : Meaning). call_by f y kept t)
      (λ k b. by-sort (λ y. broken Misfit t ≡ call_by f y kept t) k m b (λ a. refl) (λ a b. never_true (sym n ∙ b)) (λ a b c. refl) (λ a b c d. refl) (λ a b c d. refl))

-- ── terms ──

module _ (f : Tables) (kept : List ℕ) (r shape t k : ℕ) (e : k ≡ get_or f.kinds (t - 1) 0) {x : Ruling} where
  pub shifted : {z : Bool} → z ≡ member k shifts → z ≡ true → x ≡ shift_rules f (operand_at shape t) → x ≡ term_rules f kept r (term_at shape t)
  unfolding term_rules
  shifted h i q = rw (← e, ← h, i) q

  pub multiplied :
      {z : Bool} {a b : Ruling} → z ≡ member k shifts → z ≡ false → k ≡ K.TIMES → a ≡ product_rules f kept r (term_at shape t) → b ≡ operand_rules f (operand_at shape t) → x ≡ a ⊕ b
      → x ≡ term_rules f kept r (term_at shape t)
  unfolding term_rules
  multiplied h i j p q c = rw (← e, j) (c ∙ ap₂ (λ (v w : Ruling). v ⊕ w) p q)

  pub taken-full :
      {y z : Bool} {a b : Ruling} → z ≡ member k shifts → z ≡ false → (k ≡ K.TIMES → ⊥) → y ≡ member k full_only → y ≡ true
      → b ≡ operand_rules f (operand_at shape t) → a ≡ no_short f (operand_at shape t) → x ≡ b ⊕ a
      → x ≡ term_rules f kept r (term_at shape t)
  unfolding term_rules
  taken-full h i j l u p q c = rw (← e, ← h, i, ne_eqb k K.TIMES j, ← l, u) (c ∙ ap₂ (λ (v w : Ruling). v ⊕ w) p q)

  pub added :
      {y z : Bool} → z ≡ member k shifts → z ≡ false → (k ≡ K.TIMES → ⊥) → y ≡ member k full_only → y ≡ false → x ≡ operand_rules f (operand_at shape t) → x ≡ term_rules f kept r (term_at shape t)
  unfolding term_rules
  added h i j l u p = rw (← e, ← h, i, ne_eqb k K.TIMES j, ← l, u) p
