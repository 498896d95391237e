-- What is read from the heads again is the segments': the map is their space, segment 1's length is the table's. Assumes nothing.
use Prim.Native.Nat.{ℕ, zero, suc, ◌+◌, ◌-◌, ◌*◌, ◌<◌, ◌≤◌}
use mathlib.Core.Path.{◌≡◌, refl, sym, ap, ap₂, ◌∙◌}
use mathlib.Core.List.{List, [], ◌∷◌, ◌++◌, map}
use native.Mathlib.Omega.{arith}
use lib.Dec.{ltb}
use lib.ListN.{length, take, drop, get_or, replicate, length-take, get_or-eq_default}
use lib.Seq.{get_or-take, get_or-drop}
use borrow.Author.Tests.{ltb-true, ltb-false}
use Rattle.base.proofs.Tests.{cases}
use Rattle.objtext.specs.Object.{Segment, content_of}
use Rattle.objtext.specs.Reader.{two_of, head_length, data_at, after_data, program_at, after_program, data_list, segment_list}
use Rattle.objtext.proofs.Places.{length-content, length-place}
use Rattle.objtext.proofs.Walks.{length-list}
use Rattle.machine.specs.Space.{pages, needed, end_column, from_column, to_column, entry, space_by}
use Rattle.runner.specs.Load.{placed, tabled, loaded, end_of, from_of, to_of, by_page, space_of}
use Rattle.runner.specs.Charted.{charted}

-- a column of the map
entry-is : (map : List ℕ) (column p : ℕ) → entry map column p ≡ get_or (take pages (drop column map)) p 0
entry-is map column p =
    cases (ltb p pages) (λ h. let l = ltb-true p pages h in rw h (sym (get_or-take pages (drop column map) p 0 l ∙ get_or-drop column map p 0)))
    (λ h. let l = ltb-false p pages h in rw h (sym (get_or-eq_default (take pages (drop column map)) 0 (omega (arith, length-take pages (drop column map))))))

trailing : (l : List ℕ) (k p : ℕ) → get_or (l ++ replicate k 0) p 0 ≡ get_or l p 0
trailing [] zero p = refl
trailing [] (suc k) zero = refl
trailing [] (suc k) (suc p) = trailing [] k p
trailing (x ∷ l) k zero = refl
trailing (x ∷ l) k (suc p) = trailing l k p

-- the numbers at offset o of the heads of n data segments from s on
abbrev values : ℕ → ℕ → List ℕ → List ℕ
values o zero s = []
values o (suc n) s = two_of (drop o s) ∷ values o n (after_data s)

-- by page, page 0 and the program's before them
abbrev column : ℕ → ℕ → List ℕ → List ℕ
column o n s = (0 ∷ 0 ∷ values o n s) ++ replicate (3 - n) 0

abbrev chart_of : ℕ → List ℕ → List ℕ
chart_of n s = charted n 1 s (replicate (3 * pages) 0)

abbrev Columns : ℕ → List ℕ → Type 0
Columns n s =
    (take pages (drop end_column (chart_of n s)) ≡ column 4 n s)
    × (take pages (drop from_column (chart_of n s)) ≡ column 8 n s)
    × (take pages (drop to_column (chart_of n s)) ≡ column 12 n s)

columns : (n : ℕ) (s : List ℕ) → n ≤ 3 → Columns n s
columns zero s h = (refl, refl, refl)
columns (suc zero) s h = (refl, refl, refl)
columns (suc (suc zero)) s h = (refl, refl, refl)
columns (suc (suc (suc zero))) s h = (refl, refl, refl)
columns (suc (suc (suc (suc n)))) s h = absurd (omega arith)

-- a number of each segment that its head gives at offset o, and the program's is 0
module _ (o : ℕ) (f : Segment → ℕ) (t : List ℕ) (e : (s : List ℕ) → f (data_at s) ≡ two_of (drop o s)) (z : f (program_at t) ≡ 0) where
  map-values : (n : ℕ) (s : List ℕ) → map f (data_list n s) ≡ values o n s
  map-values zero s = refl
  map-values (suc n) s = ap₂ (λ (x : ℕ) (l : List ℕ). x ∷ l) (e s) (map-values n (after_data s))

  page-is : (n c : ℕ) → take pages (drop c (chart_of n (after_program t))) ≡ column o n (after_program t) → (p : ℕ)
      → entry (chart_of n (after_program t)) c p ≡ by_page f (segment_list (suc n) t) p
  page-is n c h p =
      let s = after_program t in
      entry-is (chart_of n s) c p
      ∙ ap (λ (l : List ℕ). get_or l p 0) h
      ∙ trailing (0 ∷ 0 ∷ values o n s) (3 - n) p
      ∙ ap₂ (λ (x : ℕ) (l : List ℕ). get_or (0 ∷ x ∷ l) p 0) (sym z) (sym (map-values n s))

content-end : (s : List ℕ) → length (content_of (data_at s)) ≡ head_length s
unfolding data_at
content-end s = length-content s 17 (head_length s)

data-end : (s : List ℕ) → end_of (data_at s) ≡ two_of (drop 4 s)
unfolding data_at
data-end s = length-content s 17 (head_length s)

data-from : (s : List ℕ) → from_of (data_at s) ≡ two_of (drop 8 s)
unfolding data_at
data-from s = refl

data-to : (s : List ℕ) → to_of (data_at s) ≡ two_of (drop 12 s)
unfolding data_at
data-to s = refl

pub space-is : (n : ℕ) (t : List ℕ) → 0 < n → n ≤ 4 → space_by (head_length t) (chart_of (n - 1) (after_program t)) ≡ space_of (segment_list n t)
unfolding space_of program_at
space-is zero t h l = absurd (omega arith)
space-is (suc n) t h l =
    let w : suc n - 1 ≡ n = omega arith in
    let k = columns n (after_program t) (omega arith) in
    rw w
    (λ i.
    record {
      program = sym (length-content t 9 (head_length t)) i;
      end = λ p. page-is 4 end_of t data-end refl n end_column k.0 p i;
      from = λ p. page-is 8 from_of t data-from refl n from_column k.1 p i;
      to = λ p. page-is 12 to_of t data-to refl n to_column k.2 p i;
    })

pub loaded-is : (n : ℕ) (t s : List ℕ) (at l : ℕ) → 2 ≤ n → drop at t ≡ after_program t → l ≡ two_of (drop (at + 4) t)
    → tabled l n 0 (placed 0 (segment_list n t) (replicate needed 0 ++ drop needed s)) ≡ loaded (segment_list n t) s
unfolding loaded
loaded-is zero t s at l h e q = absurd (omega arith)
loaded-is (suc zero) t s at l h e q = absurd (omega arith)
loaded-is (suc (suc n)) t s at l h e q =
    let u = placed 0 (segment_list (suc (suc n)) t) (replicate needed 0 ++ drop needed s) in
    let a : l ≡ length (content_of (data_at (after_program t))) = q ∙ length-place t at ∙ ap head_length e ∙ sym (content-end (after_program t)) in
    let b : suc (suc n) ≡ length (segment_list (suc (suc n)) t) = ap suc (sym (length-list (suc n) (after_program t))) in
    ap₂ (λ (x m : ℕ). tabled x m 0 u) a b
