-- What rules ask of a meaning, by its packed number.
use mathlib.Core.Path.{◌≡◌, refl, sym, ◌∙◌}
use mathlib.Core.Bool.{Bool, true, false, ◌&&◌, ◌||◌, not}
use mathlib.Core.List.{List}
use mathlib.Core.Option.{none, some}
use Prim.Native.Nat.{ℕ, zero, suc, ◌+◌, ◌-◌, ◌*◌, ◌/◌, ◌%◌, ◌≤◌, ◌<◌}
use native.Mathlib.Omega.{arith}
use native.Mathlib.Nat.{mul-le-mul_right, div-add-mod'}
use lib.Dec.{eqb, leb, ltb}
use lib.ListN.{get_or}
use borrow.Author.Tests.{eqb-true, eq-eqb, ne_eqb, le-leb, lt-leb, leb-true, leb-false, ltb-true, ltb-false, lt-ltb, le-ltb}
use Rattle.base.specs.Choose.{whether◌then◌else◌}
use Rattle.base.specs.Lists.{member}
use Rattle.base.proofs.Tests.{cases}
use Rattle.base.proofs.Numbers.{one_less}
use Rattle.ledger.specs.Book.{Wide, Thin}
use Rattle.static_rules.specs.Registers.{Registers, has, spares}
use Rattle.static_rules.specs.Meaning.{Based, element_size}
use Rattle.static_rules.specs.Tables.{Tables, meaning_at}
use Rattle.static_rules.specs.Rules.{is_register, is_zero, is_short, is_cell, is_byte_cell, is_bare, inside}
use Rattle.tables.specs.Packed.{number_in, is_register_in, is_cell_in, width_number_in, is_short_in, is_byte_in, based_in, cell_in, width_in, unpacked, packed_at}
use Rattle.tables.specs.Stacks.{stack_of}
use Rattle.tables.proofs.Meanings.{half_is, byte-is, by-sort, register-alone, routine-alone, meaning-at}
use Rattle.rules.specs.Parts.{subscript_at, index_at}
use Rattle.rules.specs.Shows.{Listed}

-- ── what a name means ──

module _ (n m : ℕ) (b : Based) where
  pub register-sort : is_register_in m ≡ is_register (unpacked n m b)
  register-sort = by-sort (λ x. is_register_in m ≡ is_register x) n m b (λ e. e) (λ e f. e) (λ e f g. e) (λ e f g h. e) (λ e f g h. e)

  pub zero-sort : (is_register_in m && eqb (number_in m) 0) ≡ is_zero (unpacked n m b)
  zero-sort = by-sort (λ x. (is_register_in m && eqb (number_in m) 0) ≡ is_zero x) n m b (λ e. rw e) (λ e f. rw e) (λ e f g. rw e) (λ e f g h. rw e) (λ e f g h. rw e)

  pub short-sort : (is_cell_in m && is_short_in m) ≡ is_short (unpacked n m b)
  short-sort =
      by-sort (λ x. (is_cell_in m && is_short_in m) ≡ is_short x) n m b (λ e. rw (register-alone m e).1) (λ e f. rw (routine-alone m f).1)
      (λ e f g. rw g (sym (half_is (width_number_in m)))) (λ e f g h. rw g) (λ e f g h. rw g)

  pub byte-sort : (is_cell_in m && is_byte_in m) ≡ is_byte_cell (unpacked n m b)
  byte-sort =
      by-sort (λ x. (is_cell_in m && is_byte_in m) ≡ is_byte_cell x) n m b (λ e. rw (register-alone m e).1) (λ e f. rw (routine-alone m f).1)
      (λ e f g. rw g (sym (byte-is (width_number_in m)))) (λ e f g h. rw g) (λ e f g h. rw g)

  pub cell-sort : is_cell_in m ≡ is_cell (unpacked n m b)
  cell-sort = by-sort (λ x. is_cell_in m ≡ is_cell x) n m b (λ e. (register-alone m e).1) (λ e f. (routine-alone m f).1) (λ e f g. g) (λ e f g h. g) (λ e f g h. g)

module _ {f : Tables} {w : Wide} {l : Thin} (s : Listed f w l) where
  -- the base of the name at token t
  pub base_at : ℕ → Based
  base_at t = based_in (get_or s.bases (get_or l.found t 0) 0)

  pub meant-at : (t m : ℕ) → m ≡ packed_at l.found w.means t → meaning_at f t ≡ unpacked (get_or l.found t 0) m (base_at t)
  unfolding base_at
  meant-at t m e = rw (s.found-is, s.means_is, e) (meaning-at w.means s.bases (get_or l.found t 0))

-- ── parts ──

pub bare-is : (shape t : ℕ) → not (eqb shape 1 || (eqb shape 2 || eqb shape 3)) ≡ is_bare (subscript_at shape t) (index_at shape t)
unfolding subscript_at index_at
bare-is shape t = go (eqb shape 1) (eqb shape 2) (eqb shape 3)
  where
    go : (a b c : Bool) → not (a || (b || c)) ≡ is_bare (whether a || c then some (t + 2) else none) (whether b then some (t + 2) else whether c then some (t + 5) else none)
    go true true true = refl
    go true true false = refl
    go true false true = refl
    go true false false = refl
    go false true true = refl
    go false true false = refl
    go false false true = refl
    go false false false = refl

-- a multiple of the size lies inside where so many elements stand before it
within-is : (e v n : ℕ) → 0 < e → (eqb (v % e) 0 && ltb (v / e) n) ≡ (eqb (v % e) 0 && leb (v + e) (e * n))
within-is e v n h = cases (eqb (v % e) 0) (λ z. rw z (go (eqb-true _ _ z))) (λ z. rw z)
  where
    go : v % e ≡ 0 → ltb (v / e) n ≡ leb (v + e) (e * n)
    go z =
        let q : v / e * e ≡ v = omega (arith, div-add-mod' v e) in
        cases (ltb (v / e) n)
        (λ x. rw (x, le-leb (v + e) (e * n) (omega (arith, q, mul-le-mul_right {m = suc (v / e)} {n = n} e (ltb-true _ _ x)))))
        (λ x. rw (x, lt-leb (v + e) (e * n) (omega (arith, q, mul-le-mul_right {m = n} {n = v / e} e (ltb-false _ _ x)))))

pub inside_is : (m e v k : ℕ) → e ≡ element_size (width_in m) → 1 ≤ e → k ≡ number_in m → (n : ℕ) (b : Based) → (ltb v 2147483648 && (eqb (v % e) 0 && ltb (v / e) k)) ≡ inside (cell_in n m b) v
inside_is m e v k q h r n b = rw (← q, ← r, within-is e v k (omega arith), below-is v)
  where
    -- the test of the sign, either way
    below-is : (v : ℕ) → ltb v 2147483648 ≡ not (leb 2147483648 v)
    below-is v =
        cases (leb 2147483648 v)
        (λ x. let y = leb-true 2147483648 v x in rw (x, le-ltb v 2147483648 (omega arith)))
        (λ x. let y = leb-false 2147483648 v x in rw (x, lt-ltb v 2147483648 (omega arith)))

-- ── protected registers ──

module _ (a : List ℕ) (r : ℕ) where
  kept-turn : (i : ℕ) → 0 < i → member r (stack_of a i) ≡ (eqb r (get_or a (i - 1) 0) || member r (stack_of a (i - 1)))
  unfolding stack_of
  kept-turn zero h = absurd (omega arith)
  kept-turn (suc i) h = rw (one_less i)

module _ (a : List ℕ) (r : ℕ) {X : Bool} where
  pub kept-hit : (i g : ℕ) → 0 < i → g ≡ get_or a (i - 1) 0 → r ≡ g → X ≡ member r (stack_of a i) → X ≡ true
  kept-hit i g h e q x = x ∙ (kept-turn a r i h ∙ rw (← e, eq-eqb r g q))

  pub kept-miss : (i g : ℕ) → 0 < i → g ≡ get_or a (i - 1) 0 → (r ≡ g → ⊥) → X ≡ member r (stack_of a i) → X ≡ member r (stack_of a (i - 1))
  kept-miss i g h e q x = x ∙ (kept-turn a r i h ∙ rw (← e, ne_eqb r g q))

  pub kept-none : (i : ℕ) → i ≤ 0 → X ≡ member r (stack_of a i) → X ≡ false
  unfolding stack_of
  kept-none zero h x = x
  kept-none (suc i) h x = absurd (omega arith)

module _ (a : List ℕ) (s : Registers) where
  spares-turn : (i : ℕ) → 0 < i → spares s (stack_of a i) ≡ (not (has s (get_or a (i - 1) 0)) && spares s (stack_of a (i - 1)))
  unfolding stack_of spares
  spares-turn zero h = absurd (omega arith)
  spares-turn (suc i) h = rw (one_less i)

module _ (a : List ℕ) (s : Registers) {X : Bool} where
  pub spares-hit : (i g : ℕ) (y : Bool) → 0 < i → g ≡ get_or a (i - 1) 0 → y ≡ has s g → y ≡ true → X ≡ spares s (stack_of a i) → X ≡ false
  spares-hit i g y h e f q x = x ∙ (spares-turn a s i h ∙ rw (← e, ← f, q))

  pub spares-miss : (i g : ℕ) (y : Bool) → 0 < i → g ≡ get_or a (i - 1) 0 → y ≡ has s g → y ≡ false → X ≡ spares s (stack_of a i) → X ≡ spares s (stack_of a (i - 1))
  spares-miss i g y h e f q x = x ∙ (spares-turn a s i h ∙ rw (← e, ← f, q))

  pub spares-none : (i : ℕ) → i ≤ 0 → X ≡ spares s (stack_of a i) → X ≡ true
  unfolding stack_of spares
  spares-none zero h x = x
  spares-none (suc i) h x = absurd (omega arith)
