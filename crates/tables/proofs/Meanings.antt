-- Packed meanings: what was packed comes out, one name's meaning is read or set without the others, and what rules ask is told by the packed number.
use mathlib.Core.Path.{◌≡◌, refl, sym, ap, ap₂, ◌∙◌}
use mathlib.Core.Bool.{true, false, ◌||◌}
use mathlib.Core.List.{List, [], ◌∷◌}
use Prim.Native.Nat.{ℕ, zero, suc, ◌+◌, ◌*◌, ◌≤◌, ◌<◌}
use native.Mathlib.Omega.{arith}
use native.Mathlib.Nat.{add-zero, zero-add}
use lib.Dec.{eqb, leb}
use lib.ListN.{get_or, set, length}
use lib.Seq.{get_or-set_same, get_or-set_other}
use borrow.Author.Tests.{eqb-true, ne_eqb, le-leb}
use Rattle.base.proofs.Tests.{cases, by-test, never_true}
use Rattle.grammar.specs.Tree.{Width, full, short, byte}
use Rattle.static_rules.specs.Meaning.{Meaning, nothing, register, cell, routine, function, Based, register_of, is_full, is_half, is_byte, is_long}
use Rattle.tables.specs.declared.Width as W
use Rattle.tables.specs.declared.Width.TheVariants.{Full, Short, Byte, Character}
use Rattle.tables.specs.Packed.{width_number, coded_width, REGISTER, ROUTINE, CELL, ARRAY, FUNCTION, SORTS, WIDTHS, low, packed, sort_in, number_in, is_register_in, is_routine_in, is_array_in, is_cell_in, is_function_in, width_number_in, width_by, based_in, cell_in, unpacked, meanings_from, meanings_of, register_in, long_in}

pub low-low : (v : ℕ) → low (low v) ≡ low v
unfolding low
low-low v = omega arith

pub low-is : (v : ℕ) → v < 4294967296 → low v ≡ v
unfolding low
low-is v h = omega arith

pub low-lt : (v : ℕ) → low v < 4294967296
unfolding low
low-lt v = omega arith

-- ── what was packed comes out ──

module _ (sort w v : ℕ) (few : sort < SORTS) (bits : w < WIDTHS) where
  pub packed-number : number_in (packed sort w v) ≡ low v
  unfolding number_in packed low
  packed-number = omega arith

  packed-sort : sort_in (packed sort w v) ≡ sort
  unfolding packed low
  packed-sort = omega arith

  packed-width : width_number_in (packed sort w v) ≡ w
  unfolding width_number_in packed low
  packed-width = omega arith

  packed-register-sort : is_register_in (packed sort w v) ≡ eqb sort REGISTER
  unfolding is_register_in
  packed-register-sort = ap (λ (s : ℕ). eqb s REGISTER) packed-sort

  packed-routine-sort : is_routine_in (packed sort w v) ≡ eqb sort ROUTINE
  unfolding is_routine_in
  packed-routine-sort = ap (λ (s : ℕ). eqb s ROUTINE) packed-sort

  packed-array-sort : is_array_in (packed sort w v) ≡ eqb sort ARRAY
  unfolding is_array_in
  packed-array-sort = ap (λ (s : ℕ). eqb s ARRAY) packed-sort

  packed-cell-sort : is_cell_in (packed sort w v) ≡ (eqb sort CELL || eqb sort ARRAY)
  unfolding is_cell_in
  packed-cell-sort = ap (λ (s : ℕ). eqb s CELL || eqb s ARRAY) packed-sort

  packed-function-sort : is_function_in (packed sort w v) ≡ eqb sort FUNCTION
  unfolding is_function_in
  packed-function-sort = ap (λ (s : ℕ). eqb s FUNCTION) packed-sort

pub based-is : (r s : ℕ) → s < 4294967296 → based_in (r * 4294967296 + s) ≡ record { register = r; segment = s }
unfolding based_in
based-is r s h = ap₂ (λ (x y : ℕ). record { register = x; segment = y }) (omega arith) (omega arith)

-- ── widths ──

-- what holds of each width, by its number
by_width : (P : ℕ → Width → Type 0) (w : ℕ) → P 0 full → P 1 short → (2 ≤ w → P w (byte (eqb w 3))) → P w (width_by w)
by_width P zero f g h = f
by_width P (suc zero) f g h = g
by_width P (suc (suc w)) f g h = rw (ne_eqb (suc (suc w)) 0 (λ e. omega arith), ne_eqb (suc (suc w)) 1 (λ e. omega arith)) (h (omega arith))

full_is : (w : ℕ) → is_full (width_by w) ≡ eqb w 0
full_is w = by_width (λ n x. is_full x ≡ eqb n 0) w refl refl (λ h. sym (ne_eqb w 0 (λ e. omega arith)))

pub half_is : (w : ℕ) → is_half (width_by w) ≡ eqb w 1
half_is w = by_width (λ n x. is_half x ≡ eqb n 1) w refl refl (λ h. sym (ne_eqb w 1 (λ e. omega arith)))

pub byte-is : (w : ℕ) → is_byte (width_by w) ≡ leb 2 w
byte-is w = by_width (λ n x. is_byte x ≡ leb 2 n) w refl refl (λ h. sym (le-leb 2 w h))

pub width_coded : (w : W.Width) → coded_width (width_number w) ≡ w
width_coded Full = refl
width_coded Short = refl
width_coded Byte = refl
width_coded Character = refl

-- ── by what it is ──

module _ (P : Meaning → Type 0) (t m : ℕ) (b : Based) where
  pub by-sort :
      (is_register_in m ≡ true → P (register (number_in m))) → (is_register_in m ≡ false → is_routine_in m ≡ true → P (routine (number_in m)))
      → (is_register_in m ≡ false → is_routine_in m ≡ false → is_cell_in m ≡ true → P (cell (cell_in t m b)))
      → (is_register_in m ≡ false → is_routine_in m ≡ false → is_cell_in m ≡ false → is_function_in m ≡ true → P (function (number_in m)))
      → (is_register_in m ≡ false → is_routine_in m ≡ false → is_cell_in m ≡ false → is_function_in m ≡ false → P nothing) → P (unpacked t m b)
  unfolding unpacked
  by-sort f g h i k =
      by-test P (is_register_in m) _ _ f
      (λ x. by-test P (is_routine_in m) _ _ (g x) (λ y. by-test P (is_cell_in m) _ _ (h x y) (λ z. by-test P (is_function_in m) _ _ (i x y z) (k x y z))))

-- no two of these are one
pub routine-alone : (m : ℕ) → is_routine_in m ≡ true → (is_register_in m ≡ false) × (is_cell_in m ≡ false)
unfolding is_routine_in is_register_in is_cell_in
routine-alone m e = rw (eqb-true (sort_in m) ROUTINE e) (refl, refl)

pub register-alone : (m : ℕ) → is_register_in m ≡ true → (is_routine_in m ≡ false) × (is_cell_in m ≡ false)
unfolding is_routine_in is_register_in is_cell_in
register-alone m e = rw (eqb-true (sort_in m) REGISTER e) (refl, refl)

pub cell-alone : (m : ℕ) → is_cell_in m ≡ true → (is_register_in m ≡ false) × (is_routine_in m ≡ false)
cell-alone m e =
    cases (is_register_in m) (λ r. never_true (sym (register-alone m r).1 ∙ e)) (λ r.
    cases (is_routine_in m) (λ q. never_true (sym (routine-alone m q).1 ∙ e)) (λ q. (r, q)))

pub function-alone : (m : ℕ) → is_function_in m ≡ true → (is_register_in m ≡ false) × (is_routine_in m ≡ false) × (is_cell_in m ≡ false)
unfolding is_function_in is_routine_in is_register_in is_cell_in
function-alone m e = rw (eqb-true (sort_in m) FUNCTION e) (refl, refl, refl)

module _ (t m : ℕ) (b : Based) where
  pub as-register : is_register_in m ≡ true → unpacked t m b ≡ register (number_in m)
  unfolding unpacked
  as-register e = rw e

  pub as-routine : is_routine_in m ≡ true → unpacked t m b ≡ routine (number_in m)
  unfolding unpacked
  as-routine e = rw ((routine-alone m e).0, e)

  pub as-cell : is_cell_in m ≡ true → unpacked t m b ≡ cell (cell_in t m b)
  unfolding unpacked
  as-cell e = rw ((cell-alone m e).0, (cell-alone m e).1, e)

  pub as_function : is_function_in m ≡ true → unpacked t m b ≡ function (number_in m)
  unfolding unpacked
  as_function e = rw ((function-alone m e).0, (function-alone m e).1, (function-alone m e).2, e)

  pub as-nothing : is_register_in m ≡ false → is_routine_in m ≡ false → is_cell_in m ≡ false → is_function_in m ≡ false → unpacked t m b ≡ nothing
  unfolding unpacked
  as-nothing e f g h = rw (e, f, g, h)

pub register-is : (t m : ℕ) (b : Based) → register_of (unpacked t m b) ≡ register_in m
unfolding register_in
register-is t m b = by-sort (λ x. register_of x ≡ register_in m) t m b (λ e. rw e) (λ e f. rw e) (λ e f g. rw e) (λ e f g h. rw e) (λ e f g h. rw e)

pub long-is : (t m : ℕ) (b : Based) → is_long (unpacked t m b) ≡ long_in m
unfolding long_in
long-is t m b =
    by-sort (λ x. is_long x ≡ long_in m) t m b (λ e. rw e) (λ e f. rw (e, (routine-alone m f).1)) (λ e f g. rw (e, g) (full_is (width_number_in m)))
    (λ e f g h. rw (e, g)) (λ e f g h. rw (e, g))

pub packed-register : (t v : ℕ) (b : Based) → unpacked t (packed REGISTER 0 v) b ≡ register (low v)
packed-register t v b =
    as-register t (packed REGISTER 0 v) b (packed-register-sort REGISTER 0 v (omega arith) (omega arith)) ∙ ap register (packed-number REGISTER 0 v (omega arith) (omega arith))

pub packed-routine : (t v : ℕ) (b : Based) → unpacked t (packed ROUTINE 0 v) b ≡ routine (low v)
packed-routine t v b =
    as-routine t (packed ROUTINE 0 v) b (packed-routine-sort ROUTINE 0 v (omega arith) (omega arith)) ∙ ap routine (packed-number ROUTINE 0 v (omega arith) (omega arith))

pub packed-function : (t v : ℕ) (b : Based) → unpacked t (packed FUNCTION 0 v) b ≡ function (low v)
packed-function t v b =
    as_function t (packed FUNCTION 0 v) b (packed-function-sort FUNCTION 0 v (omega arith) (omega arith)) ∙ ap function (packed-number FUNCTION 0 v (omega arith) (omega arith))

-- ── one name's meaning ──

meaning-from : (ms bs : List ℕ) (k i : ℕ) → get_or (meanings_from k ms bs) i nothing ≡ unpacked (k + i) (get_or ms i 0) (based_in (get_or bs (k + i) 0))
unfolding meanings_from unpacked is_register_in is_routine_in is_cell_in is_function_in
meaning-from [] bs k i = refl
meaning-from (m ∷ ms) bs k zero = rw (add-zero k)
meaning-from (m ∷ ms) bs k (suc i) = let e : k + suc i ≡ suc k + i = omega arith in rw e (meaning-from ms bs (suc k) i)

pub meaning-at : (ms bs : List ℕ) (i : ℕ) → get_or (meanings_of ms bs) i nothing ≡ unpacked i (get_or ms i 0) (based_in (get_or bs i 0))
meaning-at ms bs i = meaning-from ms bs 0 i ∙ rw (zero-add i)

set-from : (ms bs : List ℕ) (k i m : ℕ) → meanings_from k (set ms i m) bs ≡ set (meanings_from k ms bs) i (unpacked (k + i) m (based_in (get_or bs (k + i) 0)))
unfolding meanings_from
set-from [] bs k i m = refl
set-from (x ∷ ms) bs k zero m = rw (add-zero k)
set-from (x ∷ ms) bs k (suc i) m =
    let e : k + suc i ≡ suc k + i = omega arith in
    rw e (ap (λ (l : List Meaning). unpacked k x (based_in (get_or bs k 0)) ∷ l) (set-from ms bs (suc k) i m))

pub meaning-set : (ms bs : List ℕ) (i m : ℕ) → meanings_of (set ms i m) bs ≡ set (meanings_of ms bs) i (unpacked i m (based_in (get_or bs i 0)))
meaning-set ms bs i m = set-from ms bs 0 i m ∙ rw (zero-add i)

bases-past : (ms bs : List ℕ) (k j b : ℕ) → j < k → meanings_from k ms (set bs j b) ≡ meanings_from k ms bs
unfolding meanings_from
bases-past [] bs k j b h = refl
bases-past (m ∷ ms) bs k j b h =
    rw (get_or-set_other bs j k b 0 (λ e. absurd (omega arith))) (ap (λ (l : List Meaning). unpacked k m (based_in (get_or bs k 0)) ∷ l) (bases-past ms bs (suc k) j b (omega arith)))

both-from :
    (ms bs : List ℕ) (k i m b : ℕ) → k + length ms ≤ length bs → meanings_from k (set ms i m) (set bs (k + i) b) ≡ set (meanings_from k ms bs) i (unpacked (k + i) m (based_in b))
unfolding meanings_from
both-from [] bs k i m b h = refl
both-from (x ∷ ms) bs k zero m b h =
    rw (add-zero k, get_or-set_same bs k b 0 (omega arith)) (ap (λ (l : List Meaning). unpacked k m (based_in b) ∷ l) (bases-past ms bs (suc k) k b (omega arith)))
both-from (x ∷ ms) bs k (suc i) m b h =
    let e : k + suc i ≡ suc k + i = omega arith in
    rw (get_or-set_other bs (k + suc i) k b 0 (λ q. absurd (omega arith)))
    (rw e (ap (λ (l : List Meaning). unpacked k x (based_in (get_or bs k 0)) ∷ l) (both-from ms bs (suc k) i m b (omega arith))))

pub meaning-set-both :
    (ms bs : List ℕ) (i m b : ℕ) → length ms ≤ length bs → meanings_of (set ms i m) (set bs i b) ≡ set (meanings_of ms bs) i (unpacked i m (based_in b))
meaning-set-both ms bs i m b h =
    ap (λ (j : ℕ). meanings_of (set ms i m) (set bs j b)) (sym (zero-add i)) ∙ (both-from ms bs 0 i m b (omega arith) ∙ ap (λ (j : ℕ). set (meanings_of ms bs) i (unpacked j m (based_in b))) (zero-add i))

-- cells and arrays
pub packed-cell :
    (t v sort w : ℕ) (b : Based) → (sort < SORTS) × (w < WIDTHS) → (eqb sort CELL || eqb sort ARRAY) ≡ true
    → unpacked t (packed sort w v) b ≡ cell (record { name = t; base = b; width = width_by w; elements = low v; array = eqb sort ARRAY })
packed-cell t v sort w b (h, k) e =
    as-cell t (packed sort w v) b (packed-cell-sort sort w v h k ∙ e)
    ∙ rw (packed-width sort w v h k, packed-number sort w v h k, packed-array-sort sort w v h k)
