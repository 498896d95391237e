-- Loading, in the form of its loops' invariants: what is left to be placed, charted or entered in the table, from where the loop stands, makes the whole.
-- Assumes nothing.
use Prim.Native.Nat.{ℕ, zero, suc, ◌+◌, ◌-◌, ◌*◌, ◌<◌, ◌≤◌}
use mathlib.Core.Path.{◌≡◌, refl, sym, ◌∙◌, subst}
use mathlib.Core.Bool.{Bool, true, false}
use mathlib.Core.List.{List, [], ◌∷◌, ◌++◌}
use native.Mathlib.Omega.{arith}
use native.Mathlib.Numerals.{add-one}
use lib.Dec.{leb}
use lib.ListN.{length, take, drop, set, replicate, length-append, length-drop, length-replicate}
use lib.Seq.{drop-drop, sets, length-sets, length-take-le}
use borrow.Author.Tests.{le-leb, lt-leb}
use Rattle.base.specs.Choose.{choose}
use Rattle.base.specs.Numbers.{stored, bytes_of}
use Rattle.objtext.specs.Object.{Segment, content_of, frames_for}
use Rattle.objtext.specs.Reader.{two_of, content_at, content_length, head_length, is_data, data_at, after_data, program_at, after_program, data_list, segment_list}
use Rattle.objtext.proofs.Places.{after-data-place}
use Rattle.objtext.proofs.Walks.{Walked, walked_on}
use Rattle.machine.specs.Space.{origin, end_column, from_column, to_column}
use Rattle.runner.specs.Load.{placed, table_word, tabled}
use Rattle.runner.specs.Charted.{paged, charted}

-- ── along the data segments ──

-- the place behind the data segment at a place
abbrev pub behind : List ℕ → ℕ → ℕ
behind t at = at + (17 + content_length (head_length (drop at t)))

module _ (t : List ℕ) (count k at : ℕ) (h : k < count) where
  pub walk_here : Walked (count - k) k (drop at t) → is_data k (drop at t) ≡ true
  walk_here w = (walked_on (count - k) k (drop at t) (omega arith) w).0

  pub walk-on : Walked (count - k) k (drop at t) → Walked (count - (k + 1)) (k + 1) (drop (behind t at) t)
  walk-on w =
      let e : count - k - 1 ≡ count - (k + 1) = omega arith in
      rw (after-data-place t at) (subst (λ (n : ℕ). Walked n (k + 1) (after_data (drop at t))) e (walked_on (count - k) k (drop at t) (omega arith) w).1)

  more : count - k ≡ suc (count - suc k)
  more = omega arith

  pub place-on : (s : List ℕ) {x : List ℕ} → placed k (data_list (count - k) (drop at t)) s ≡ x
      → placed (k + 1) (data_list (count - (k + 1)) (drop (behind t at) t)) (sets s (origin k) (content_at (frames_for (head_length (drop at t))) (head_length (drop at t)) (drop (at + 17) t))) ≡ x
  unfolding data_at
  place-on s {x} e =
      let g = content_at (frames_for (head_length (drop at t))) (head_length (drop at t)) (drop 17 (drop at t)) in
      rw (after-data-place t at, ← drop-drop 17 at t)
      (subst (λ (j : ℕ). placed j (data_list (count - j) (after_data (drop at t))) (sets s (origin k) g) ≡ x) (sym (add-one k)) (rw more at e))

  pub chart-on : (map : List ℕ) {x : List ℕ} → charted (count - k) k (drop at t) map ≡ x
      → charted (count - (k + 1)) (k + 1) (drop (behind t at) t)
      (set (set (set map (end_column + (k + 1)) (two_of (drop (at + 4) t))) (from_column + (k + 1)) (two_of (drop (at + 8) t))) (to_column + (k + 1)) (two_of (drop (at + 12) t))) ≡ x
  chart-on map {x} e =
      rw (after-data-place t at, ← drop-drop 4 at t, ← drop-drop 8 at t, ← drop-drop 12 at t)
      (subst (λ (j : ℕ). charted (count - j) j (after_data (drop at t)) (paged (k + 1) (drop at t) map) ≡ x) (sym (add-one k)) (rw more at e))

module _ (count k : ℕ) (h : count ≤ k) where
  none_left : count - k ≡ 0
  none_left = omega arith

  pub place_end : (u s : List ℕ) {x : List ℕ} → placed k (data_list (count - k) u) s ≡ x → s ≡ x
  place_end u s e = rw none_left at e

  pub chart-end : (u map : List ℕ) {x : List ℕ} → charted (count - k) k u map ≡ x → map ≡ x
  chart-end u map e = rw none_left at e

  pub table-end : (l : ℕ) (s : List ℕ) {x : List ℕ} → tabled l (count - k) k s ≡ x → s ≡ x
  table-end l s e = rw none_left at e

-- the program first
pub placed-all : (t : List ℕ) (count : ℕ) (s : List ℕ) {r : List ℕ} → 2 ≤ count
    → r ≡ placed 1 (data_list (count - 1) (after_program t)) (sets s (origin 0) (content_at (frames_for (head_length t)) (head_length t) (drop 9 t))) → r ≡ placed 0 (segment_list count t) s
unfolding program_at
placed-all t zero s h e = absurd (omega arith)
placed-all t (suc n) s h e = let w : suc n - 1 ≡ n = omega arith in rw w at e

-- ── the table ──

pub table_on : (l count k : ℕ) (s : List ℕ) {x : List ℕ} → k < count → tabled l (count - k) k s ≡ x → tabled l (count - (k + 1)) (k + 1) (table_word l k s) ≡ x
table_on l count k s {x} h e =
    let w : count - k ≡ suc (count - suc k) = omega arith in
    subst (λ (j : ℕ). tabled l (count - j) j (table_word l k s) ≡ x) (sym (add-one k)) (rw w at e)

pub table-start : (l count : ℕ) (s : List ℕ) → tabled l (count - 0) 0 s ≡ tabled l count 0 s
table-start l count s = let w : count - 0 ≡ count = omega arith in rw w

pub length-word : (l k : ℕ) (s : List ℕ) → length (table_word l k s) ≡ length s
length-word l k s = go (leb (4 * k + 4) l)
  where
    go : (b : Bool) → length (choose b (stored s (origin 1 + 4 * k) 4 (origin k)) s) ≡ length s
    go true = length-sets s (origin 1 + 4 * k) (bytes_of 4 (origin k))
    go false = refl

pub word_fits : (l k : ℕ) (s : List ℕ) → 4 * k + 4 ≤ l → stored s (origin 1 + 4 * k) 4 (origin k) ≡ table_word l k s
word_fits l k s h = rw (le-leb (4 * k + 4) l h)

pub word_out : (l k : ℕ) (s : List ℕ) → l < 4 * k + 4 → s ≡ table_word l k s
word_out l k s h = rw (lt-leb (4 * k + 4) l h)

-- ── zeros ──

pub zeros : (n : ℕ) (s z : List ℕ) → n ≤ length s → z ≡ replicate (length (take n s)) 0 → z ++ drop n s ≡ replicate n 0 ++ drop n s
zeros n s z h e = rw (e, length-take-le n s h)

-- ── lengths ──

pub length-placed : (k : ℕ) (gs : List Segment) (s : List ℕ) → length (placed k gs s) ≡ length s
length-placed k [] s = refl
length-placed k (g ∷ gs) s = length-placed (suc k) gs (sets s (origin k) (content_of g)) ∙ length-sets s (origin k) (content_of g)

pub length-cleared : (n : ℕ) (s : List ℕ) → n ≤ length s → length (replicate n 0 ++ drop n s) ≡ length s
length-cleared n s h = omega (arith, length-append (replicate n 0) (drop n s), length-replicate {A = ℕ} n 0, length-drop n s)
