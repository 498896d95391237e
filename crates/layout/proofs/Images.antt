-- On the tape of a tree the image of a segment is the definition's: `image-of-tree`; and the part of it that the segment has is `cut-fill`. Assumes nothing.
use mathlib.Core.Path.{◌≡◌, refl, sym, ap, ap₂, ◌∙◌}
use mathlib.Core.List.{List, [], ◌∷◌, ◌++◌, map}
use Prim.Native.Nat.{ℕ, zero, suc, ◌+◌, ◌<◌, ◌≤◌}
use native.Mathlib.Omega.{arith}
use native.Mathlib.Decide.{dec_le}
use lib.Dec.{eqb, ltb}
use lib.ListN.{get_or, set, length, take, replicate}
use lib.Seq.{sets, length-sets, set_out}
use borrow.Author.Tests.{lt-ltb, le-ltb, eq-eqb, ne_eqb}
use Rattle.base.specs.Choose.{whether◌then◌else◌}
use Rattle.base.specs.Lists.{All}
use Rattle.base.specs.Numbers.{bytes_of}
use Rattle.base.proofs.Tests.{cases, by-test}
use Rattle.base.proofs.Numbers.{length-bytes_of}
use Rattle.base.proofs.Parts.{sets-append}
use Rattle.grammar.specs.Tree.{Item, Statement, Width}
use Rattle.grammar.specs.Derives.{is_program}
use Rattle.tape.specs.Tape.{tape_statement}
use Rattle.tape.specs.Pass.{pass}
use Rattle.static_rules.specs.Meaning.{element_size}
use Rattle.static_rules.specs.Meanings.{Filled, Meant, mean_program}
use Rattle.static_rules.proofs.Known.{Below, Falling}
use Rattle.translation.specs.Layout.{Placed, offset_for, value_bytes, place_cell, place_cells, offset_of, segment_limit}
use Rattle.translation.specs.Image.{fill}
use Rattle.layout.specs.declared.Filling.{Filling}
use Rattle.layout.specs.Along.{Imaging, imaging_of, nowhere, start_cell, lay_value, image_event}
use Rattle.layout.proofs.Trees.{Apart, on_values, on_item, cells-made}
use Rattle.layout.proofs.Laid.{Right, fields}

-- ── values, one after the other ──

-- the bytes of values of z bytes each
abbrev bytes_all : ℕ → List ℕ → List ℕ
bytes_all z [] = []
bytes_all z (v ∷ vs) = bytes_of z v ++ bytes_all z vs

values-are : (w : Width) (vs : List ℕ) → bytes_all (element_size w) vs ≡ value_bytes w vs
unfolding value_bytes
values-are w [] = refl
values-are w (v ∷ vs) = ap (λ (bs : List ℕ). bytes_of (element_size w) v ++ bs) (values-are w vs)

none-are : (vs : List ℕ) → bytes_all 0 vs ≡ []
unfolding bytes_of
none-are [] = refl
none-are (v ∷ vs) = none-are vs

sets-out : (l : List ℕ) (i : ℕ) (vs : List ℕ) → length l ≤ i → sets l i vs ≡ l
sets-out l i [] h = refl
sets-out l i (v ∷ vs) h = ap (λ (x : List ℕ). sets x (suc i) vs) (set_out l i v h) ∙ sets-out l (suc i) vs (omega arith)

abbrev moved : Filling → Filling
moved f = whether ltb f.at segment_limit then record { at = f.at + f.size; size = f.size } else f

abbrev moved_all : List ℕ → Filling → Filling
moved_all [] f = f
moved_all (v ∷ vs) f = moved_all vs (moved f)

module _ (k : ℕ) (means bases offsets values : List ℕ) where
  abbrev step : ℕ → ℕ → Imaging → Imaging
  step = image_event k means bases offsets values

  quiet : (op t : ℕ) (s : Imaging) → Apart op → step op t s ≡ s
  unfolding image_event
  quiet op t s h = rw (h.0, h.1)

  abbrev read : List ℕ → List ℕ
  read ts = map (λ (t : ℕ). get_or values t 0) ts

  abbrev Laid : (ts image : List ℕ) (f : Filling) → Type 0
  Laid ts image f = on_values step ts (imaging_of image f) ≡ imaging_of (sets image f.at (bytes_all f.size (read ts))) (moved_all (read ts) f)

  module _ (t : ℕ) (ts image : List ℕ) (f : Filling) (h : length image ≤ segment_limit) (ih : (image : List ℕ) (f : Filling) → length image ≤ segment_limit → Laid ts image f) where
    here : f.at < segment_limit → Laid (t ∷ ts) image f
    unfolding image_event lay_value
    here l =
        let g : Filling = record { at = f.at + f.size; size = f.size } in
        let bs = bytes_of f.size (get_or values t 0) in
        let on : lay_value (get_or values t 0) (imaging_of image f) ≡ imaging_of (sets image f.at bs) g = rw (lt-ltb f.at segment_limit l) in
        let m : g ≡ moved f = rw (lt-ltb f.at segment_limit l) in
        let e = rw (length-bytes_of f.size (get_or values t 0)) at (sets-append image f.at bs (bytes_all f.size (read ts))) in
        ap (on_values step ts) on
        ∙ (ih (sets image f.at bs) g (omega (arith, length-sets image f.at bs)) ∙ ap₂ (λ (x : List ℕ) (y : Filling). imaging_of x (moved_all (read ts) y)) (sym e) m)

    past : segment_limit ≤ f.at → Laid (t ∷ ts) image f
    unfolding image_event lay_value
    past l =
        let a = sets-out image f.at (bytes_all f.size (read ts)) (omega arith) in
        let b = sets-out image f.at (bytes_all f.size (read (t ∷ ts))) (omega arith) in
        let on : lay_value (get_or values t 0) (imaging_of image f) ≡ imaging_of image f = rw (le-ltb f.at segment_limit l) in
        let m : f ≡ moved f = rw (le-ltb f.at segment_limit l) in
        ap (on_values step ts) on ∙ (ih image f h ∙ ap₂ (λ (x : List ℕ) (y : Filling). imaging_of x (moved_all (read ts) y)) (a ∙ sym b) m)

    either : Dec (f.at < segment_limit) → Laid (t ∷ ts) image f
    either (yes l) = here l
    either (no l) = past (omega arith)

  values-laid : (ts image : List ℕ) (f : Filling) → length image ≤ segment_limit → Laid ts image f
  values-laid [] image f h = refl
  values-laid (t ∷ ts) image f h = either t ts image f h (values-laid ts) (dec_le (suc f.at) segment_limit)

  -- ── cells, the newest first ──

  module _ (image : List ℕ) (short : length image ≤ segment_limit) where
    abbrev lay_cells : List Filled → List ℕ
    lay_cells [] = image
    lay_cells (d ∷ ds) =
        whether eqb d.cell.base.segment k then sets (lay_cells ds) (get_or offsets d.cell.name 0) (value_bytes d.cell.width d.values) else lay_cells ds

    abbrev next_after : List Filled → Filling
    next_after [] = nowhere
    next_after (d ∷ ds) = moved_all d.values (start_cell k means bases offsets d.cell.name)

    abbrev made : List Filled → Imaging
    made ds = imaging_of (lay_cells ds) (next_after ds)

    short-cells : (ds : List Filled) → length (lay_cells ds) ≤ segment_limit
    short-cells [] = short
    short-cells (d ∷ ds) =
        by-test (λ (l : List ℕ). length l ≤ segment_limit) (eqb d.cell.base.segment k) _ _
        (λ e. let h = short-cells ds in omega (arith, length-sets (lay_cells ds) (get_or offsets d.cell.name 0) (value_bytes d.cell.width d.values))) (λ e. short-cells ds)

    -- the values of a cell
    cell-laid : (d : Filled) (image : List ℕ) → Right means bases d
        → sets image (start_cell k means bases offsets d.cell.name).at (bytes_all (start_cell k means bases offsets d.cell.name).size d.values)
        ≡ (whether eqb d.cell.base.segment k then sets image (get_or offsets d.cell.name 0) (value_bytes d.cell.width d.values) else image)
    unfolding start_cell
    cell-laid d image r =
        let f = fields means bases d r in
        cases (eqb d.cell.base.segment k)
        (λ e. rw (f.of-segment, e) (ap (λ (bs : List ℕ). sets image (get_or offsets d.cell.name 0) bs) (ap (λ (z : ℕ). bytes_all z d.values) f.of_size
        ∙ values-are d.cell.width d.values)))
        (λ e. rw (f.of-segment, e, none-are d.values))

    one : (i : Item) (d : Filled) (ds : List Filled) → d.cell.name ≡ i.name → d.values ≡ read i.numbers → Right means bases d → on_item step i (made ds) ≡ made (d ∷ ds)
    unfolding image_event
    one i d ds e v r =
        values-laid i.numbers (lay_cells ds) (start_cell k means bases offsets i.name) (short-cells ds)
        ∙ rw (← e, ← v) (ap (λ (x : List ℕ). imaging_of x (moved_all d.values (start_cell k means bases offsets d.cell.name))) (cell-laid d (lay_cells ds) r))

    -- ── they are the definition's ──

    abbrev There : Placed → Type 0
    There p = get_or offsets p.name 0 ≡ p.offset

    filled : (n : ℕ) (ds : List Filled) → All There (place_cells n ds).placed → lay_cells ds ≡ fill k (place_cells n ds).placed image
    unfolding place_cells place_cell fill
    filled n [] a = refl
    filled n (d ∷ ds) a =
        ap₂ (λ (l : List ℕ) (o : ℕ). whether eqb d.cell.base.segment k then sets l o (value_bytes d.cell.width d.values) else l) (filled n ds a.1) a.0

    -- the initial values of the cells of segment k
    pub image-of-tree : (kinds found : List ℕ) (x : Statement) (i j : ℕ) → is_program kinds x i j → (s : Meant) (n : ℕ) → s.cells ≡ []
        → All (Right means bases) (mean_program kinds values found x s).cells → All There (place_cells n (mean_program kinds values found x s).cells).placed
        → (pass step (imaging_of image nowhere) (tape_statement x [])).image ≡ fill k (place_cells n (mean_program kinds values found x s).cells).placed image
    image-of-tree kinds found x i j p s n e r a =
        ap (λ (m : Imaging). m.image) (cells-made kinds values found step quiet (Right means bases) made one x i j p s e r) ∙ filled n (mean_program kinds values found x s).cells a

-- no two cells are declared at one token, so each stands where it was placed
pub placed-there : (n : ℕ) (ds : List Filled) → Falling ds → All (λ (p : Placed). offset_of (place_cells n ds).placed p.name ≡ p.offset) (place_cells n ds).placed
unfolding place_cells place_cell offset_of
placed-there n [] f = tt
placed-there n (d ∷ ds) f = (rw (eq-eqb d.cell.name d.cell.name refl), later ds f.0 (placed-there n ds f.1))
  where
    skip : (es : List Filled) (q : Placed → ℕ) → Below d.cell.name es → All (λ (p : Placed). q p ≡ p.offset) (place_cells n es).placed
        → All (λ (p : Placed). (whether eqb d.cell.name p.name then offset_for d.cell (place_cells n ds).ends else q p) ≡ p.offset) (place_cells n es).placed
    skip [] q b a = tt
    skip (e ∷ es) q b a = (let l = b.0 in rw (ne_eqb d.cell.name e.cell.name (λ z. omega arith)) a.0, skip es q b.1 a.1)

    later : (es : List Filled) → Below d.cell.name es → All (λ (p : Placed). offset_of (place_cells n ds).placed p.name ≡ p.offset) (place_cells n es).placed
        → All (λ (p : Placed). (whether eqb d.cell.name p.name then offset_for d.cell (place_cells n ds).ends else offset_of (place_cells n ds).placed
        p.name) ≡ p.offset) (place_cells n es).placed
    later es b a = skip es (λ p. offset_of (place_cells n ds).placed p.name) b a

-- ── the part that a segment has ──

take-set : (n : ℕ) (l : List ℕ) (i v : ℕ) → take n (set l i v) ≡ set (take n l) i v
take-set zero l i v = refl
take-set (suc n) [] i v = refl
take-set (suc n) (x ∷ l) zero v = refl
take-set (suc n) (x ∷ l) (suc i) v = ap (λ (r : List ℕ). x ∷ r) (take-set n l i v)

pub take-sets : (n : ℕ) (l : List ℕ) (i : ℕ) (vs : List ℕ) → take n (sets l i vs) ≡ sets (take n l) i vs
take-sets n l i [] = refl
take-sets n l i (v ∷ vs) = take-sets n (set l i v) (suc i) vs ∙ ap (λ (r : List ℕ). sets r (suc i) vs) (take-set n l i v)

take-zeros : (e n : ℕ) → e ≤ n → take e (replicate {A = ℕ} n 0) ≡ replicate e 0
take-zeros zero n h = refl
take-zeros (suc e) zero h = absurd (omega arith)
take-zeros (suc e) (suc n) h = ap (λ (l : List ℕ). 0 ∷ l) (take-zeros e n (omega arith))

-- the image of a whole segment, cut to the segment's end
pub cut-fill : (k e n : ℕ) (ps : List Placed) → e ≤ n → take e (fill k ps (replicate n 0)) ≡ fill k ps (replicate e 0)
unfolding fill
cut-fill k e n [] h = take-zeros e n h
cut-fill k e n (p ∷ ps) h =
    cases (eqb p.segment k)
    (λ q. rw q (take-sets e (fill k ps (replicate n 0)) p.offset p.content ∙ ap (λ (l : List ℕ). sets l p.offset p.content) (cut-fill k e n ps h)))
    (λ q. rw q (cut-fill k e n ps h))
