-- Where no rule of layout is broken: ends only grow and stay within a segment, and every declared cell lies aligned between its segment's start and end.
use mathlib.Core.Path.{◌≡◌, refl, sym, ap, subst, ◌∙◌}
use mathlib.Core.Logic.{◌⊎◌, inl, inr}
use mathlib.Core.List.{List, [], ◌∷◌}
use mathlib.Core.Bool.{Bool, true, false}
use Prim.Native.Nat.{ℕ, zero, suc, ◌+◌, ◌*◌, ◌%◌, ◌<◌, ◌≤◌}
use native.Mathlib.Omega.{arith}
use native.Mathlib.Nat.{le_trans, le_of_eq}
use native.Mathlib.Decide.{dec_le, ℕ_discrete}
use lib.Dec.{eqb, leb}
use lib.ListN.{length, get_or, set, length-set, replicate, length-replicate}
use lib.Seq.{get_or-set_same, get_or-set_other}
use borrow.Author.Tests.{leb-true, eq-eqb, ne_eqb}
use Rattle.base.specs.Choose.{whether◌then◌else◌}
use Rattle.base.specs.Lists.{◌∈◌}
use Rattle.base.proofs.Lists.{all_in}
use Rattle.grammar.specs.Tree.{Width, full, short, byte}
use Rattle.scopes.specs.declared.Refusal.TheVariants.{NoRoom}
use Rattle.scopes.specs.Broken.{unbroken}
use Rattle.scopes.proofs.Joins.{quiet-left, quiet-right, rule-holds}
use Rattle.static_rules.specs.Meaning.{Cell, element_size}
use Rattle.static_rules.specs.Meanings.{Filled}
use Rattle.static_rules.proofs.Known.{Falling}
use Rattle.translation.specs.Layout.{segment_limit, table_bytes, round_up, Room, offset_for, end_for, place_cell, place_cells, offset_of}

-- ── "the next multiple" ──

pub round-up : (w : Width) (n : ℕ) → (n ≤ round_up (element_size w) n) × (round_up (element_size w) n % element_size w ≡ 0) × (round_up (element_size w) n < n + element_size w)
round-up full n = (omega arith, omega arith, omega arith)
round-up short n = (omega arith, omega arith, omega arith)
round-up (byte c) n = (omega arith, omega arith, omega arith)

pub end-past : (c : Cell) (ends : List ℕ) → get_or ends c.base.segment 0 ≤ end_for c ends
end-past c ends = let r = (round-up c.width (get_or ends c.base.segment 0)).0 in omega arith

-- ── ends ──

get_d_past : (l : List ℕ) (k : ℕ) → length l ≤ k → get_or l k 0 ≡ 0
get_d_past [] k h = refl
get_d_past (x ∷ l) zero h = absurd (omega arith)
get_d_past (x ∷ l) (suc k) h = get_d_past l k (omega arith)

-- an entry of a list of which one was set: as it was, or the new value
abbrev Entry : List ℕ → ℕ → ℕ → ℕ → Type 0
Entry l i v k = (get_or (set l i v) k 0 ≡ get_or l k 0) ⊎ ((k ≡ i) × (k < length l) × (get_or (set l i v) k 0 ≡ v))

set-entry : (l : List ℕ) (i v k : ℕ) → Entry l i v k
set-entry l i v k = go (ℕ_discrete k i) (dec_le (length l) k)
  where
    go : Dec (k ≡ i) → Dec (length l ≤ k) → Entry l i v k
    go (no n) d = inl (get_or-set_other l i k v 0 n)
    go (yes e) (yes p) = inl (let q = length-set l i v in get_d_past (set l i v) k (omega arith) ∙ sym (get_d_past l k p))
    go (yes e) (no p) = inr (e, omega arith, ap (λ (j : ℕ). get_or (set l i v) j 0) e ∙ get_or-set_same l i v 0 (omega arith))

abbrev entry : (d : Filled) (s : Room) (k : ℕ) → Entry s.ends d.cell.base.segment (end_for d.cell s.ends) k
entry d s k = set-entry s.ends d.cell.base.segment (end_for d.cell s.ends) k

pub ends-grow : (d : Filled) (s : Room) (k : ℕ) → get_or s.ends k 0 ≤ get_or (place_cell d s).ends k 0
unfolding place_cell
ends-grow d s k = go (entry d s k)
  where
    go : Entry s.ends d.cell.base.segment (end_for d.cell s.ends) k → get_or s.ends k 0 ≤ get_or (set s.ends d.cell.base.segment (end_for d.cell s.ends)) k 0
    go (inl e) = omega arith
    go (inr t) =
        let h = end-past d.cell s.ends in
        let q = t.2 in
        let e : get_or s.ends k 0 ≡ get_or s.ends d.cell.base.segment 0 = ap (λ (j : ℕ). get_or s.ends j 0) t.0 in
        omega arith

pub length-ends : (n : ℕ) (ds : List Filled) → length (place_cells n ds).ends ≡ 2 + n
unfolding place_cells place_cell
length-ends n [] = ap (λ (k : ℕ). suc (suc k)) (length-replicate {A = ℕ} n 0) ∙ omega arith
length-ends n (d ∷ ds) = length-set (place_cells n ds).ends _ _ ∙ length-ends n ds

zeros : (n k : ℕ) → get_or {A = ℕ} (replicate n 0) k 0 ≡ 0
zeros zero k = refl
zeros (suc n) zero = refl
zeros (suc n) (suc k) = zeros n k

pub quiet-earlier : (d : Filled) (s : Room) → (place_cell d s).broken ≡ unbroken → s.broken ≡ unbroken
unfolding place_cell
quiet-earlier d s h = quiet-left s.broken _ h

-- "A segment is at most 4,096 bytes, every cell included."
pub ends-fit : (n : ℕ) (ds : List Filled) → (place_cells n ds).broken ≡ unbroken → (k : ℕ) → get_or (place_cells n ds).ends k 0 ≤ segment_limit
unfolding place_cells place_cell
ends-fit n [] h zero = omega arith
ends-fit n [] h (suc zero) = omega arith
ends-fit n [] h (suc (suc k)) = let z = zeros n k in omega arith
ends-fit n (d ∷ ds) h k = go (ends-fit n ds (quiet-left (place_cells n ds).broken _ h) k) (entry d (place_cells n ds) k)
  where
    s : Room
    s = place_cells n ds

    go : get_or s.ends k 0 ≤ segment_limit → Entry s.ends d.cell.base.segment (end_for d.cell s.ends) k
        → get_or (set s.ends d.cell.base.segment (end_for d.cell s.ends)) k 0 ≤ segment_limit
    go b (inl e) = omega arith
    go b (inr t) =
        let q = t.2 in
        let r : end_for d.cell s.ends ≤ segment_limit = leb-true _ _ (rule-holds (leb (end_for d.cell s.ends) segment_limit) NoRoom d.cell.name (quiet-right s.broken _ h)) in
        omega arith

-- and every cell begins in its segment
pub offsets-fit : (n : ℕ) (ds : List Filled) → (place_cells n ds).broken ≡ unbroken → (t : ℕ) → offset_of (place_cells n ds).placed t ≤ segment_limit
unfolding place_cells place_cell offset_of
offsets-fit n [] h t = omega arith
offsets-fit n (d ∷ ds) h t = go (eqb d.cell.name t) (offsets-fit n ds (quiet-left (place_cells n ds).broken _ h) t)
  where
    s : Room
    s = place_cells n ds

    go : (b : Bool) → offset_of s.placed t ≤ segment_limit → (whether b then offset_for d.cell s.ends else offset_of s.placed t) ≤ segment_limit
    go true k =
        let r : end_for d.cell s.ends ≤ segment_limit = leb-true _ _ (rule-holds (leb (end_for d.cell s.ends) segment_limit) NoRoom d.cell.name (quiet-right s.broken _ h)) in
        omega arith
    go false k = k

-- ── cells ──

-- where the cells of segment k start: "cells start at 16; segments 2 and 3 start at 0"
abbrev pub start_of : ℕ → ℕ
start_of zero = 0
start_of (suc zero) = table_bytes
start_of (suc (suc k)) = 0

pub start_first : (n : ℕ) (ds : List Filled) (k : ℕ) → start_of k ≤ get_or (place_cells n ds).ends k 0
unfolding place_cells
start_first n [] zero = omega arith
start_first n [] (suc zero) = omega arith
start_first n [] (suc (suc k)) = omega arith
start_first n (d ∷ ds) k = let a = start_first n ds k in let b = ends-grow d (place_cells n ds) k in omega arith

-- a cell at an offset: aligned, from its segment's start, and ending at or before the end of the cells
pub record CellAt (c : Cell) (ends : List ℕ) (offset : ℕ) : Type 0 where
  pub aligned : offset % element_size c.width ≡ 0
  pub low : start_of c.base.segment ≤ offset
  pub high : offset + element_size c.width * c.elements ≤ get_or ends c.base.segment 0

at_first : (n : ℕ) (d : Filled) (ds : List Filled) → d.cell.base.segment < 2 + n → CellAt d.cell (place_cell d (place_cells n ds)).ends (offset_for d.cell (place_cells n ds).ends)
unfolding place_cell
at_first n d ds h =
    let c = d.cell in
    let s = place_cells n ds in
    let k = c.base.segment in
    let r = round-up c.width (get_or s.ends k 0) in
    record {
      aligned = r.1;
      low = le_trans (start_first n ds k) r.0;
      high = le_of_eq (sym (get_or-set_same s.ends k (end_for c s.ends) 0 (subst (λ (m : ℕ). k < m) (sym (length-ends n ds)) h)));
    }

-- later cells leave it there
at-later : (c : Cell) (d : Filled) (s : Room) (o : ℕ) → CellAt c s.ends o → CellAt c (place_cell d s).ends o
at-later c d s o h = record { aligned = h.aligned; low = h.low; high = le_trans h.high (ends-grow d s c.base.segment) }

-- every declared cell of the segments 1 to 1 + n stands at the offset that its name has
pub cell_at : (n : ℕ) (ds : List Filled) (d : Filled) → Falling ds → d ∈ ds → d.cell.base.segment < 2 + n
    → CellAt d.cell (place_cells n ds).ends (offset_of (place_cells n ds).placed d.cell.name)
unfolding place_cells place_cell offset_of
cell_at n [] d f i h = absurd i
cell_at n (x ∷ ds) d f (inl i) h =
    subst (λ (y : Filled). CellAt y.cell (place_cell x (place_cells n ds)).ends (offset_of (place_cell x (place_cells n ds)).placed y.cell.name)) (sym i)
    (rw (eq-eqb x.cell.name x.cell.name refl) (at_first n x ds (subst (λ (y : Filled). y.cell.base.segment < 2 + n) i h)))
cell_at n (x ∷ ds) d f (inr i) h =
    rw (ne_eqb x.cell.name d.cell.name (apart x.cell.name d.cell.name (all_in (λ (y : Filled). y.cell.name < x.cell.name) ds f.0 d i)))
    (at-later d.cell x (place_cells n ds) _ (cell_at n ds d f.1 i h))
  where
    apart : (a b : ℕ) → b < a → a ≡ b → ⊥
    apart a b u v = omega arith
