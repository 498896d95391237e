-- The data segments that a layout gives are of the form that the object text has: bytes, within 4,096, writable where the cells are.
use mathlib.Core.Path.{◌≡◌, refl, ap, ◌∙◌}
use mathlib.Core.List.{List, [], ◌∷◌}
use mathlib.Core.Bool.{Bool, true, false}
use Prim.Native.Nat.{ℕ, zero, suc, ◌<◌, ◌≤◌}
use native.Mathlib.Omega.{arith}
use lib.Dec.{eqb}
use lib.ListN.{length, replicate, length-replicate}
use lib.Seq.{sets, length-sets}
use Rattle.base.specs.Choose.{whether◌then◌else◌}
use Rattle.base.specs.Lists.{All}
use Rattle.base.specs.Numbers.{bytes_of}
use Rattle.base.proofs.Lists.{all_both, all-sets, all_replicate}
use Rattle.base.proofs.Numbers.{bytes_of-below}
use Rattle.grammar.specs.Tree.{Width}
use Rattle.static_rules.specs.Meaning.{element_size}
use Rattle.static_rules.specs.Meanings.{Filled}
use Rattle.objtext.specs.Object.{Bytes, Data}
use Rattle.translation.specs.Layout.{Layout, Placed, segment_limit, table_bytes, value_bytes, place_cell, place_cells, literals_end, cells_end}
use Rattle.translation.specs.Image.{fill, words, end_of_first, first_data, data_of, data_from}

-- ── bytes ──

values-bytes : (w : Width) (vs : List ℕ) → Bytes (value_bytes w vs)
unfolding value_bytes
values-bytes w [] = tt
values-bytes w (v ∷ vs) = all_both (λ (b : ℕ). b < 256) (bytes_of (element_size w) v) (value_bytes w vs) (bytes_of-below (element_size w) v) (values-bytes w vs)

words-bytes : (vs : List ℕ) → Bytes (words vs)
unfolding words
words-bytes [] = tt
words-bytes (v ∷ vs) = all_both (λ (b : ℕ). b < 256) (bytes_of 4 v) (words vs) (bytes_of-below 4 v) (words-bytes vs)

abbrev Contents : List Placed → Type 0
Contents ps = All (λ (p : Placed). Bytes p.content) ps

pub placed-bytes : (n : ℕ) (ds : List Filled) → Contents (place_cells n ds).placed
unfolding place_cells place_cell
placed-bytes n [] = tt
placed-bytes n (d ∷ ds) = (values-bytes d.cell.width d.values, placed-bytes n ds)

pub fill-length : (k : ℕ) (ps : List Placed) (image : List ℕ) → length (fill k ps image) ≡ length image
unfolding fill
fill-length k [] image = refl
fill-length k (p ∷ ps) image = go (eqb p.segment k) (fill-length k ps image)
  where
    go : (b : Bool) → length (fill k ps image) ≡ length image → length (whether b then sets (fill k ps image) p.offset p.content else fill k ps image) ≡ length image
    go true e = length-sets (fill k ps image) p.offset p.content ∙ e
    go false e = e

fill-bytes : (k : ℕ) (ps : List Placed) (image : List ℕ) → Contents ps → Bytes image → Bytes (fill k ps image)
unfolding fill
fill-bytes k [] image c h = h
fill-bytes k (p ∷ ps) image c h = go (eqb p.segment k) (fill-bytes k ps image c.1 h)
  where
    go : (b : Bool) → Bytes (fill k ps image) → Bytes (whether b then sets (fill k ps image) p.offset p.content else fill k ps image)
    go true e = all-sets (λ (x : ℕ). x < 256) (fill k ps image) p.offset p.content e c.0
    go false e = e

zeros : (n : ℕ) → Bytes (replicate n 0)
zeros n = all_replicate (λ (b : ℕ). b < 256) n 0 (omega arith)

-- ── segments ──

-- a layout whose cells fit, with its literals after them
pub record Fitting (l : Layout) : Type 0 where
  pub contents : Contents l.placed
  pub start : table_bytes ≤ cells_end l 1
  pub ends : (k : ℕ) → cells_end l k ≤ segment_limit
  pub at : cells_end l 1 ≤ l.literals_at
  pub room : literals_end l ≤ segment_limit

pub end-first : (l : Layout) → Fitting l → (cells_end l 1 ≤ end_of_first l) × (end_of_first l ≤ segment_limit)
end-first l h = go (eqb (length l.literals) 0)
  where
    go : (b : Bool) → (cells_end l 1 ≤ (whether b then cells_end l 1 else literals_end l)) × ((whether b then cells_end l 1 else literals_end l) ≤ segment_limit)
    go true = let e = h.ends 1 in (omega arith, omega arith)
    go false = let a = h.at in let r = h.room in (omega arith, omega arith)

pub first-data : (l : Layout) → Fitting l → Data (first_data l)
unfolding first_data
first-data l h =
    let image = fill 1 l.placed (replicate (end_of_first l) 0) in
    let e = end-first l h in
    let n : length (sets image l.literals_at (words l.literals)) ≡ end_of_first l =
    length-sets image l.literals_at (words l.literals) ∙ (fill-length 1 l.placed (replicate (end_of_first l) 0) ∙ length-replicate {A = ℕ} (end_of_first l) 0) in
    let lo = e.0 in
    let hi = e.1 in
    record {
      bytes =
          all-sets (λ (x : ℕ). x < 256) image l.literals_at (words l.literals) (fill-bytes 1 l.placed (replicate (end_of_first l) 0) h.contents (zeros (end_of_first l)))
          (words-bytes l.literals);
      short = omega arith;
      order = h.start;
      inside = omega arith;
    }

pub later-data : (l : Layout) (k : ℕ) → Fitting l → Data (data_of l k)
unfolding data_of
later-data l k h =
    let n : length (fill k l.placed (replicate (cells_end l k) 0)) ≡ cells_end l k =
    fill-length k l.placed (replicate (cells_end l k) 0) ∙ length-replicate {A = ℕ} (cells_end l k) 0 in
    let e = h.ends k in
    record { bytes = fill-bytes k l.placed (replicate (cells_end l k) 0) h.contents (zeros (cells_end l k)); short = omega arith; order = omega arith; inside = omega arith }

pub data-from : (l : Layout) (k n : ℕ) → Fitting l → All Data (data_from l k n)
data-from l k zero h = tt
data-from l k (suc n) h = (later-data l k h, data-from l (suc k) n h)

pub length-data : (l : Layout) (k n : ℕ) → length (data_from l k n) ≡ n
length-data l k zero = refl
length-data l k (suc n) = ap (λ (m : ℕ). suc m) (length-data l (suc k) n)
