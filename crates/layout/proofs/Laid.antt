-- On the tape of a tree the layout is the definition's: `layout-of-tree`. Assumes nothing.
use mathlib.Core.Path.{◌≡◌, refl, sym, ap, ap₂, subst, ◌∙◌}
use mathlib.Core.List.{List, [], ◌∷◌, map}
use Prim.Native.Nat.{ℕ, zero, suc, ◌+◌, ◌-◌, ◌*◌, ◌<◌, ◌≤◌}
use native.Mathlib.Omega.{arith}
use lib.Dec.{eqb, leb}
use lib.ListN.{get_or, set, length, replicate, length-set, length-replicate}
use lib.Seq.{get_or-set_same, get_or-set_other}
use borrow.Author.Tests.{eqb-true, eqb-false}
use Rattle.base.specs.Choose.{whether◌then◌else◌}
use Rattle.base.specs.Lists.{All}
use Rattle.base.proofs.Lists.{all_map}
use Rattle.base.proofs.Tests.{cases}
use Rattle.scopes.specs.declared.Refusal.TheVariants.{NoRoom}
use Rattle.scopes.specs.Broken.{Ruling, unbroken, rule, ◌⊕◌}
use Rattle.grammar.specs.Tree.{Item, Statement}
use Rattle.grammar.specs.Derives.{is_program}
use Rattle.tape.specs.Tape.{tape_statement}
use Rattle.tape.specs.Pass.{pass}
use Rattle.static_rules.specs.Meaning.{Meaning, nothing, cell, Cell, Based, element_size}
use Rattle.static_rules.specs.Meanings.{Filled, Meant, mean_program}
use Rattle.static_rules.proofs.Known.{Below, Told, Opened, Known}
use Rattle.tables.specs.Packed.{number_in, based_in, cell_in, unpacked, meanings_of}
use Rattle.tables.proofs.Meanings.{by-sort, meaning-at}
use Rattle.translation.specs.Layout.{round_up, offset_for, end_for, empty_ends, place_cell, place_cells, offset_of, segment_limit}
use Rattle.translation.proofs.Rooms.{length-ends}
use Rattle.layout.specs.Along.{Laying, laying_of, start_ends, segment_at, size_at, offset_at, end_at, place_by, place_at, event_by, layout_event}
use Rattle.layout.proofs.Trees.{Apart, on_values, on_item, cells-made}

-- ── a cell by its packed meaning ──

module _ (means bases : List ℕ) where
  -- a declared cell is what its name means
  abbrev pub Right : Filled → Type 0
  Right d = get_or (meanings_of means bases) d.cell.name nothing ≡ cell d.cell

  pub record Fields (c : Cell) : Type 0 where
    pub of_size : size_at means c.name ≡ element_size c.width
    pub of-segment : segment_at bases c.name ≡ c.base.segment
    pub of-elements : number_in (get_or means c.name 0) ≡ c.elements

  never : {P : Type 0} (m : Meaning) (c : Cell) → m ≡ nothing → m ≡ cell c → P
  never m c p q = absurd (let z : ◌≡◌ {A = ℕ} 0 1 = cc in omega arith)

  is-cell : (t m : ℕ) (b : Based) (c : Cell) → unpacked t m b ≡ cell c → cell_in t m b ≡ c
  is-cell t m b c e = by-sort (λ (x : Meaning). x ≡ cell c → cell_in t m b ≡ c) t m b (λ q r. cc) (λ q r s. cc) (λ q r s u. cc) (λ q r s u v. cc) (λ q r s u v. cc) e

  pub fields : (d : Filled) → Right d → Fields d.cell
  unfolding based_in
  fields d r =
      let t = d.cell.name in
      let e = is-cell t (get_or means t 0) (based_in (get_or bases t 0)) d.cell (sym (meaning-at means bases t) ∙ r) in
      record { of_size = ap (λ (c : Cell). element_size c.width) e; of-segment = ap (λ (c : Cell). c.base.segment) e; of-elements = ap (λ (c : Cell). c.elements) e }

  -- ── the layout of cells, the newest first ──

  module _ (start : Laying) where
    abbrev pub lay_all : List Filled → Laying
    lay_all [] = start
    lay_all (d ∷ ds) = place_at means bases d.cell.name (lay_all ds)

    quiet : (op t : ℕ) (s : Laying) → Apart op → layout_event means bases op t s ≡ s
    unfolding event_by
    quiet op t s h = rw h.0

    values-quiet : (ts : List ℕ) (s : Laying) → on_values (layout_event means bases) ts s ≡ s
    unfolding event_by
    values-quiet [] s = refl
    values-quiet (t ∷ ts) s = values-quiet ts s

    one : (values : List ℕ) (i : Item) (d : Filled) (ds : List Filled) → d.cell.name ≡ i.name → d.values ≡ map (λ (t : ℕ). get_or values t 0) i.numbers → Right d
        → on_item (layout_event means bases) i (lay_all ds) ≡ lay_all (d ∷ ds)
    unfolding event_by
    one values i d ds e v r = values-quiet i.numbers _ ∙ rw e

-- ── it is the definition's ──

-- two lists that read alike do so after one store
same_set : (l m : List ℕ) (i v k : ℕ) → i < length l → i < length m → get_or l k 0 ≡ get_or m k 0 → get_or (set l i v) k 0 ≡ get_or (set m i v) k 0
same_set l m i v k a b h =
    cases (eqb k i)
    (λ e. let q = eqb-true k i e in rw q (get_or-set_same l i v 0 a ∙ sym (get_or-set_same m i v 0 b)))
    (λ e. let q = eqb-false k i e in get_or-set_other l i k v 0 q ∙ (h ∙ sym (get_or-set_other m i k v 0 q)))

pub record LaidAs (n : ℕ) (ds : List Filled) (l : Laying) : Type 0 where
  pub ends : (k : ℕ) → get_or l.ends k 0 ≡ get_or (place_cells n ds).ends k 0
  pub offsets : (t : ℕ) → get_or l.offsets t 0 ≡ offset_of (place_cells n ds).placed t
  pub broken : l.broken ≡ (place_cells n ds).broken

module _ (means bases : List ℕ) (N M n : ℕ) (fit : 2 + n ≤ N) where
  abbrev start : Laying
  start = laying_of (start_ends N) (replicate M 0) unbroken

  -- a cell whose segment was opened, at a token of the text
  abbrev Fits : Filled → Type 0
  Fits d = (Right means bases d) × (d.cell.base.segment ≤ 1 + n) × (d.cell.name < M)

  zeros : (k j : ℕ) → get_or (replicate {A = ℕ} k 0) j 0 ≡ 0
  zeros zero j = refl
  zeros (suc k) zero = refl
  zeros (suc k) (suc j) = zeros k j

  start-ends : (m k : ℕ) → get_or (start_ends (suc (suc m))) k 0 ≡ get_or (empty_ends n) k 0
  start-ends m zero = refl
  start-ends m (suc zero) = refl
  start-ends m (suc (suc k)) = zeros m k ∙ sym (zeros n k)

  long-ends : (ds : List Filled) → length (lay_all means bases start ds).ends ≡ N
  unfolding place_by
  long-ends [] = length-set (replicate N 0) 1 16 ∙ length-replicate N 0
  long-ends (d ∷ ds) = length-set (lay_all means bases start ds).ends _ _ ∙ long-ends ds

  long-offsets : (ds : List Filled) → length (lay_all means bases start ds).offsets ≡ M
  unfolding place_by
  long-offsets [] = length-replicate M 0
  long-offsets (d ∷ ds) = length-set (lay_all means bases start ds).offsets _ _ ∙ long-offsets ds

  at-start : (m : ℕ) → N ≡ suc (suc m) → LaidAs n [] start
  unfolding place_cells offset_of
  at-start m e = record { ends = λ k. rw e (start-ends m k); offsets = λ t. zeros M t; broken = refl }

  read_set : (l : List ℕ) (i v t : ℕ) → i < length l → get_or (set l i v) t 0 ≡ (whether eqb i t then v else get_or l t 0)
  read_set l i v t h =
      cases (eqb i t)
      (λ e. let q = eqb-true i t e in rw e (rw (← q) (get_or-set_same l i v 0 h)))
      (λ e. let q = eqb-false i t e in rw e (get_or-set_other l i t v 0 (λ p. q (sym p))))

  laid_as : (ds : List Filled) → All Fits ds → LaidAs n ds (lay_all means bases start ds)
  unfolding place_by place_cells place_cell offset_of
  laid_as [] a = at-start (N - 2) (omega arith)
  laid_as (d ∷ ds) a =
      let f = fields means bases d a.0.0 in
      let s = lay_all means bases start ds in
      let h = laid_as ds a.1 in
      let c = d.cell in
      let r = place_cells n ds in
      let old : get_or s.ends (segment_at bases c.name) 0 ≡ get_or r.ends c.base.segment 0 = ap (λ (k : ℕ). get_or s.ends k 0) f.of-segment ∙ h.ends c.base.segment in
      let o : offset_at means bases c.name s.ends ≡ offset_for c r.ends = ap₂ (λ (z e : ℕ). round_up z e) f.of_size old in
      let e : end_at means bases c.name s.ends ≡ end_for c r.ends =
      ap₂ (λ (x y : ℕ). x + y) o (ap₂ (λ (x y : ℕ). x * y) f.of_size f.of-elements) in
      let i : c.base.segment ≤ 1 + n = a.0.1 in
      let j : c.name < M = a.0.2 in
      let u = long-ends ds in
      let v = length-ends n ds in
      let w = long-offsets ds in
      record {
        ends = λ k.
            ap₂ (λ (g v : ℕ). get_or (set s.ends g v) k 0) f.of-segment e
            ∙ same_set s.ends r.ends c.base.segment (end_for c r.ends) k (omega arith) (omega arith) (h.ends k);
        offsets = λ t. read_set s.offsets c.name _ t (omega arith) ∙ ap₂ (λ (x y : ℕ). whether eqb c.name t then x else y) o (h.offsets t);
        broken = ap₂ (λ (x : Ruling) (y : ℕ). x ⊕ rule (leb y segment_limit) NoRoom c.name) h.broken e;
      }

-- the laws of a whole text: s is what stands before it, N and M the lengths of the two arrays
module _
    (means bases kinds values found : List ℕ) (x : Statement) (i j : ℕ) (program : is_program kinds x i j) (s : Meant) (empty : s.cells ≡ [])
    (k : ℕ) (known : Known k (mean_program kinds values found x s)) (table : meanings_of means bases ≡ (mean_program kinds values found x s).means)
  where
    abbrev after : Meant
    after = mean_program kinds values found x s

    pub all_right : All (Right means bases) after.cells
    all_right = all_map (Told after.means) (Right means bases) after.cells (λ d h. ap (λ (ms : List Meaning). get_or ms d.cell.name nothing) table ∙ h) known.told

    module _ (N M : ℕ) (in-text : k ≤ M) (fit : 2 + after.bases ≤ N) where
      all_fit : (ds : List Filled) → All (Right means bases) ds → Opened after.bases ds → Below k ds → All (Fits means bases N M after.bases fit) ds
      all_fit [] r o m = tt
      all_fit (d ∷ ds) r o m = ((r.0, o.0, (let l = m.0 in omega arith)), all_fit ds r.1 o.1 m.1)

      -- where the cells stand, where their segments end, and refusal 12
      pub layout-of-tree : LaidAs after.bases after.cells (pass (layout_event means bases) (laying_of (start_ends N) (replicate M 0) unbroken) (tape_statement x []))
      layout-of-tree =
          let from = start means bases N M after.bases fit in
          subst (λ (l : Laying). LaidAs after.bases after.cells l)
          (sym (cells-made kinds values found (layout_event means bases) (quiet means bases from) (Right means bases) (lay_all means bases from)
          (one means bases from values) x i j program s empty all_right))
          (laid_as means bases N M after.bases fit after.cells (all_fit after.cells all_right known.opened known.below))
