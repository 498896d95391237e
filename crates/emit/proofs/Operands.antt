-- An operand as instructions name it is the definition's, with the places of cells. What stands at a fixed distance from an operand's token does so by the
-- grammar; the numbers of a text have 32 bits. Assumes nothing.
use mathlib.Core.Path.{◌≡◌, refl, sym, ap, subst, ◌∙◌}
use mathlib.Core.Bool.{Bool, true, false}
use mathlib.Core.List.{List, ◌∷◌}
use mathlib.Core.Option.{Option, none, some}
use Prim.Native.Nat.{ℕ, ◌+◌, ◌/◌, ◌%◌, ◌<◌}
use native.Mathlib.Omega.{arith}
use lib.Dec.{eqb, eqb→eq}
use lib.ListN.{get_or}
use Rattle.base.proofs.Tables.{all-below}
use Rattle.token.specs.Kinds as K
use Rattle.grammar.specs.Tree.{Designator, Operand, number, place, full}
use Rattle.grammar.specs.Derives.{is_shape, is_designator, is_operand}
use Rattle.grammar.specs.Pinned.{head_of}
use Rattle.tape.specs.Tape.{event, shape_by, shape, tape_designator, tape_operand, width_of}
use Rattle.static_rules.specs.Meaning.{Meaning, nothing, register, cell, routine, function, Cell, Based, register_of, function_of, is_full, is_long, long_operand}
use Rattle.static_rules.specs.Tables.{Tables, kind_at, value_at, meaning_at}
use Rattle.tables.specs.Packed.{low, number_in, width_number_in, width_by, width_in, coded_width, based_in, cell_in, unpacked, meanings_of, register_in, packed_at}
use Rattle.tables.proofs.Meanings.{low-is, by-sort, register-alone, routine-alone, register-is, meaning-at}
use Rattle.translation.specs.Instructions.{element, literal}
use Rattle.translation.specs.Core as C
use Rattle.translation.specs.Core.{held, stored, absent, return_of, subscript_of, use_by, use_of, source_of, number_of}
use Rattle.emit.specs.declared.Use.{Use}
use Rattle.emit.specs.declared.Use.TheVariants.{Absent, Held, Number, Stored}
use Rattle.functions.specs.Arguments.{function_in}
use Rattle.functions.proofs.Packed.{meant_is}
use Rattle.emit.specs.Events.{subscript_in, index_in, element_in, place_by, place_in, use_in, return_in}

-- ── shapes ──

abbrev pub shape_of : Operand → ℕ
shape_of (number t) = 4
shape_of (place d) = shape d

-- what holds of all shapes of designators
pub by_form : (P : ℕ → Type 0) → P 0 → P 1 → P 2 → P 3 → (d : Designator) → P (shape d)
by_form P p q r s d = by_parts d.subscript d.index
  where
    by_parts : (subscript index : Option ℕ) → P (shape_by subscript index)
    by_parts none none = p
    by_parts (some v) none = q
    by_parts none (some x) = r
    by_parts (some v) (some x) = s

-- and of operands
pub by_shape : (P : ℕ → Type 0) → P 0 → P 1 → P 2 → P 3 → P 4 → (a : Operand) → P (shape_of a)
by_shape P p q r s u (number t) = u
by_shape P p q r s u (place d) = by_form P p q r s d

pub operand-tape : (op : ℕ) (a : Operand) (k : List ℕ) → tape_operand op a k ≡ event (op + shape_of a) (head_of a) ∷ k
unfolding tape_operand tape_designator
operand-tape op (number t) k = refl
operand-tape op (place d) k = refl

-- ── widths ──

width_is : (m : ℕ) → width_of (width_in m) ≡ width_number_in m
unfolding width_number_in
width_is m = eqb→eq (width_of (width_in m)) (width_number_in m) (all-below 4 (λ (w : ℕ). eqb (width_of (width_by w)) w) tt (m / 16 % 4) (omega arith))

-- ── by the tables ──

-- numbers have 32 bits
abbrev pub Small : Tables → Type 0
Small f = (t : ℕ) → kind_at f t ≡ K.NUMBER → value_at f t < 4294967296

-- the offset of the cell that is declared at token t
abbrev pub offset_at : (offsets : List ℕ) (t : ℕ) → ℕ
offset_at offsets t = low (get_or offsets t 0)

-- an element of a cell
abbrev pub stands : (offsets : List ℕ) → Cell → (offset index : ℕ) → Use
stands offsets c o x = Stored (coded_width (width_of c.width)) x c.base.register (offset_at offsets c.name + o)

module _ (f : Tables) (means under offsets : List ℕ) where
  abbrev pub placed : Designator → Use
  placed d = place_in f.values f.found means under offsets (shape d) d.name

  abbrev pub used : Operand → Use
  used a = use_in f.values f.found means under offsets (shape_of a) (head_of a)

module _ (f : Tables) (means under : List ℕ) (table : f.means ≡ meanings_of means under) where
  abbrev base_at : ℕ → Based
  base_at n = based_in (get_or under (get_or f.found n 0) 0)

  meaning-is : (n : ℕ) → meaning_at f n ≡ unpacked (get_or f.found n 0) (packed_at f.found means n) (base_at n)
  meaning-is n = ap (λ (ms : List Meaning). get_or ms (get_or f.found n 0) nothing) table ∙ meaning-at means under (get_or f.found n 0)

  pub register-at : (n : ℕ) → register_in (packed_at f.found means n) ≡ register_of (meaning_at f n)
  register-at n = sym (ap register_of (meaning-is n) ∙ register-is (get_or f.found n 0) (packed_at f.found means n) (base_at n))

  pub return-at : (n : ℕ) → return_in (packed_at f.found means n) ≡ return_of (meaning_at f n)
  unfolding return_in
  return-at n =
      sym (ap return_of (meaning-is n)
      ∙ by-sort (λ (x : Meaning). return_of x ≡ return_in m) (get_or f.found n 0) m (base_at n) (λ e. rw (register-alone m e).0) (λ e g. rw g) (λ e g h. rw g) (λ e g h i. rw g)
      (λ e g h i. rw g))
    where
      m : ℕ
      m = packed_at f.found means n

  pub function-at : (n : ℕ) → function_in (packed_at f.found means n) ≡ function_of (meaning_at f n)
  function-at n = sym (ap function_of (meaning-is n) ∙ meant_is (get_or f.found n 0) (packed_at f.found means n) (base_at n))

  module _ (offsets : List ℕ) (small : Small f) where
    number-low : (s n i : ℕ) → s ≡ n + 2 → s ≡ i → kind_at f i ≡ K.NUMBER → low (value_at f (n + 2)) ≡ value_at f s
    number-low s n i e g h = rw (← e) (low-is (value_at f s) (small s (rw g h)))

    subscript-is :
        (n : ℕ) (s x : Option ℕ) (i j : ℕ) → is_shape f.kinds n s x i j → low (subscript_in f.values (shape_by s x) n) ≡ subscript_of f s
    unfolding subscript_in low
    subscript-is n none none i j h = refl
    subscript-is n (some s) none i j (e, _, (_, (y, z, _))) = number-low s n _ (omega arith) y z
    subscript-is n none (some x) i j h = refl
    subscript-is n (some s) (some x) i j (e, _, (_, (y, z, _))) = number-low s n _ (omega arith) y z

    index_is : (n : ℕ) (s x : Option ℕ) (i j : ℕ) → is_shape f.kinds n s x i j → index_in f.found means (shape_by s x) n ≡ C.index_of f x
    unfolding index_in
    index_is n none none i j h = refl
    index_is n (some s) none i j h = refl
    index_is n none (some x) i j (e, _, (_, (y, _, _))) = let p : x ≡ n + 2 = omega arith in rw p (register-at (n + 2))
    index_is n (some s) (some x) i j (e, _, (_, (_, _, (_, (_, (y, _, _)))))) = let p : x ≡ n + 5 = omega arith in rw p (register-at (n + 5))

    pub by_place :
        (P : Meaning → C.Use → Use → Type 0)
        → P nothing absent Absent → ((r : ℕ) → P (routine r) absent Absent) → ((k : ℕ) → P (function k) absent Absent) → ((r : ℕ) → P (register r) (held r) (Held r))
        → ((c : Cell) (o x : ℕ) → P (cell c) (stored c.width (element c o x)) (stands offsets c o x))
        → (d : Designator) (i j : ℕ) → is_designator f.kinds d i j → P (meaning_at f d.name) (use_of f (place d)) (placed f means under offsets d)
    unfolding is_designator use_of place_in place_by element_in based_in
    by_place P unmeant routed working in-register in_Cell d i j h =
        rw (meaning-is d.name)
        (by-sort (λ (x : Meaning). P x (use_by f x d) (placed f means under offsets d)) at m (base_at d.name)
        (λ e. rw e (in-register (number_in m)))
        (λ e g. rw (e, (routine-alone m g).1) (routed (number_in m)))
        (λ e g q. rw (e, q, subscript-is d.name d.subscript d.index i j h, index_is d.name d.subscript d.index i j h)
        (subst (λ (y : ℕ). P (cell its) (stored its.width (element its o x)) (Stored (coded_width y) x its.base.register (offset_at offsets at + o))) (width_is m) (in_Cell its o x)))
        (λ e g q y. rw (e, q) (working (number_in m)))
        (λ e g q y. rw (e, q) unmeant))
      where
        at : ℕ
        at = get_or f.found d.name 0

        m : ℕ
        m = packed_at f.found means d.name

        its : Cell
        its = cell_in at m (base_at d.name)

        o : ℕ
        o = subscript_of f d.subscript

        x : ℕ
        x = C.index_of f d.index

    -- with the register that it is, its number, and whether a product by it is long
    pub by-use :
        (P : (source amount : ℕ) (long : Bool) → C.Use → Use → Type 0)
        → P 0 0 false absent Absent → ((r : ℕ) → P r 0 true (held r) (Held r)) → ((v : ℕ) → P 0 v true (stored full (literal v)) (Number v))
        → ((c : Cell) (o x : ℕ) → P 0 0 (is_full c.width) (stored c.width (element c o x)) (stands offsets c o x))
        → (a : Operand) (i j : ℕ) → is_operand f.kinds a i j → P (source_of f a) (number_of f a) (long_operand f.found f.means a) (use_of f a) (used f means under offsets a)
    unfolding is_operand use_of use_in
    by-use P unmeant in-register literally in_Cell (number t) i j h = literally (value_at f t)
    by-use P unmeant in-register literally in_Cell (place d) i j h =
        rw (by_form (λ n. eqb n 4 ≡ false) refl refl refl refl d) (by_place (λ m u v. P (register_of m) 0 (is_long m) u v) unmeant (λ r. unmeant) (λ k. unmeant) in-register in_Cell d i j h)
