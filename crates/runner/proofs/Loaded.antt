-- What stands in storage after loading: each segment's bytes at its origin (`loaded_bytes`), the segments' origins in the table (`loaded-table`). Assumes nothing.
use Prim.Native.Nat.{ℕ, zero, suc, ◌+◌, ◌*◌, ◌%◌, ◌^◌, ◌<◌, ◌≤◌}
use mathlib.Core.Path.{◌≡◌, refl, ap, ◌∙◌}
use mathlib.Core.Logic.{◌⊎◌, inl, inr}
use mathlib.Core.Bool.{Bool, true, false}
use mathlib.Core.List.{List, [], ◌∷◌}
use native.Mathlib.Omega.{arith}
use lib.Dec.{leb}
use lib.ListN.{length, get_or}
use lib.Seq.{sets, length-sets}
use borrow.Author.Tests.{le-leb}
use Rattle.base.specs.Choose.{choose}
use Rattle.base.specs.Lists.{All}
use Rattle.base.specs.Numbers.{value_of, value_at, stored}
use Rattle.base.proofs.Lists.{all_get_d}
use Rattle.base.proofs.Parts.{sets-before, sets-there, same-part}
use Rattle.base.proofs.Numbers.{value_at-stored}
use Rattle.objtext.specs.Object.{Segment, program, cells, content_of, Data, Object}
use Rattle.machine.specs.Space.{room, origin, needed}
use Rattle.machine.proofs.Outside.{byte-elsewhere}
use Rattle.runner.specs.Load.{placed, table_word, tabled, table_length, cleared, loaded}
use Rattle.runner.proofs.Loads.{length-placed, length-word, length-cleared}

-- ── segments ──

abbrev pub Short : List Segment → Type 0
Short gs = All (λ (g : Segment). length (content_of g) ≤ room) gs

-- segment i
abbrev pub segment_at : List Segment → ℕ → Segment
segment_at gs i = get_or gs i (program [])

-- an object's segments are short, and at most four
data-short : (gs : List Segment) → All Data gs → Short gs
data-short [] a = tt
data-short (program c ∷ gs) a = absurd a.0
data-short (cells c from to ∷ gs) a = (a.0.short, data-short gs a.1)

pub object-short : (gs : List Segment) → Object gs → Short gs × (length gs ≤ 4)
object-short [] o = absurd o
object-short (program c ∷ gs) o = ((o.short, data-short gs o.data-segments), let f = o.few in omega arith)
object-short (cells c from to ∷ gs) o = absurd o

-- below the segments that are placed nothing changes
placed_below : (k : ℕ) (gs : List Segment) (s : List ℕ) (a : ℕ) → a < origin k → get_or (placed k gs s) a 0 ≡ get_or s a 0
placed_below k [] s a h = refl
placed_below k (g ∷ gs) s a h = placed_below (suc k) gs (sets s (origin k) (content_of g)) a (omega arith) ∙ sets-before s (origin k) (content_of g) a 0 h

placed-there : (k : ℕ) (gs : List Segment) (s : List ℕ) → Short gs → origin (k + length gs) ≤ length s → (i j : ℕ) → i < length gs → j < length (content_of (segment_at gs i))
    → get_or (placed k gs s) (origin (k + i) + j) 0 ≡ get_or (content_of (segment_at gs i)) j 0
placed-there k [] s a l i j h n = absurd (omega arith)
placed-there k (g ∷ gs) s a l zero j h n =
    let e : origin (k + 0) + j ≡ origin k + j = omega arith in
    let c = a.0 in
    rw e
    (placed_below (suc k) gs (sets s (origin k) (content_of g)) (origin k + j) (omega arith) ∙ sets-there s (origin k) (content_of g) j 0 (omega arith) n)
placed-there k (g ∷ gs) s a l (suc i) j h n =
    let e : origin (k + suc i) + j ≡ origin (suc k + i) + j = omega arith in
    rw e (placed-there (suc k) gs (sets s (origin k) (content_of g)) a.1 (omega (arith, length-sets s (origin k) (content_of g))) i j (omega arith) n)

-- ── the table ──

word-elsewhere : (l k : ℕ) (s : List ℕ) (a : ℕ) → (a < origin 1 + 4 * k) ⊎ (origin 1 + 4 * k + 4 ≤ a) → get_or (table_word l k s) a 0 ≡ get_or s a 0
word-elsewhere l k s a h = go (leb (4 * k + 4) l)
  where
    go : (b : Bool) → get_or (choose b (stored s (origin 1 + 4 * k) 4 (origin k)) s) a 0 ≡ get_or s a 0
    go true = byte-elsewhere s (origin 1 + 4 * k) 4 (origin k) a h
    go false = refl

-- bytes before and after the words of n segments from number k on stay
tabled-elsewhere : (l n k : ℕ) (s : List ℕ) (a : ℕ) → (a < origin 1 + 4 * k) ⊎ (origin 1 + 4 * (k + n) ≤ a) → get_or (tabled l n k s) a 0 ≡ get_or s a 0
tabled-elsewhere l zero k s a h = refl
tabled-elsewhere l (suc n) k s a (inl h) = tabled-elsewhere l n (suc k) (table_word l k s) a (inl (omega arith)) ∙ word-elsewhere l k s a (inl h)
tabled-elsewhere l (suc n) k s a (inr h) = tabled-elsewhere l n (suc k) (table_word l k s) a (inr (omega arith)) ∙ word-elsewhere l k s a (inr (omega arith))

length-tabled : (l n k : ℕ) (s : List ℕ) → length (tabled l n k s) ≡ length s
length-tabled l zero k s = refl
length-tabled l (suc n) k s = length-tabled l n (suc k) (table_word l k s) ∙ length-word l k s

tabled-there : (l n k : ℕ) (s : List ℕ) (i : ℕ) → i < n → 4 * (k + i) + 4 ≤ l → origin 1 + 4 * (k + i) + 4 ≤ length s
    → value_at (tabled l n k s) (origin 1 + 4 * (k + i)) 4 ≡ origin (k + i) % 256 ^ 4
tabled-there l zero k s i h f m = absurd (omega arith)
tabled-there l (suc n) k s zero h f m =
    let e : k + 0 ≡ k = omega arith in
    let t : table_word l k s ≡ stored s (origin 1 + 4 * k) 4 (origin k) = rw (le-leb (4 * k + 4) l (omega arith)) in
    rw e
    (ap value_of (same-part (tabled l n (suc k) (table_word l k s)) (table_word l k s) (origin 1 + 4 * k) 4 0 (length-tabled l n (suc k) (table_word l k s))
    (λ j q. tabled-elsewhere l n (suc k) (table_word l k s) (origin 1 + 4 * k + j) (inl (omega arith))))
    ∙ (ap (λ (u : List ℕ). value_at u (origin 1 + 4 * k) 4) t ∙ value_at-stored s (origin 1 + 4 * k) 4 (origin k) (omega arith)))
tabled-there l (suc n) k s (suc i) h f m =
    let e : k + suc i ≡ suc k + i = omega arith in
    rw e (tabled-there l n (suc k) (table_word l k s) i (omega arith) (omega arith) (omega (arith, length-word l k s)))

-- ── both ──

module _ (gs : List Segment) (s : List ℕ) (short : Short gs) (few : length gs ≤ 4) (room_for : needed ≤ length s) where
  length-cleared-is : length (cleared s) ≡ length s
  length-cleared-is = length-cleared needed s room_for

  -- all bytes of a segment but the table's
  pub loaded_bytes : (i j : ℕ) → i < length gs → j < length (content_of (segment_at gs i)) → (i ≡ 1 → 16 ≤ j)
      → get_or (loaded gs s) (origin i + j) 0 ≡ get_or (content_of (segment_at gs i)) j 0
  unfolding loaded
  loaded_bytes i j h n o =
      let z : 0 + i ≡ i = omega arith in
      tabled-elsewhere (table_length gs) (length gs) 0 (placed 0 gs (cleared s)) (origin i + j) (apart i o (omega (arith, low)))
      ∙ (rw z at (placed-there 0 gs (cleared s) short (omega (arith, length-cleared-is)) i j h n))
    where
      low : length (content_of (segment_at gs i)) ≤ room
      low = all_get_d (λ (g : Segment). length (content_of g) ≤ room) gs i (program []) short (omega arith)

      apart : (i : ℕ) → (i ≡ 1 → 16 ≤ j) → j < room → (origin i + j < origin 1 + 4 * 0) ⊎ (origin 1 + 4 * (0 + length gs) ≤ origin i + j)
      apart zero o l = inl (omega arith)
      apart (suc zero) o l = let k = o refl in inr (omega arith)
      apart (suc (suc i)) o l = inr (omega arith)

  pub loaded-table : (k : ℕ) → k < length gs → 4 * k + 4 ≤ table_length gs → value_at (loaded gs s) (origin 1 + 4 * k) 4 ≡ origin k
  unfolding loaded
  loaded-table k h f =
      let z : 0 + k ≡ k = omega arith in
      rw z at (tabled-there (table_length gs) (length gs) 0 (placed 0 gs (cleared s)) k h (omega arith) (omega (arith, length-cleared-is, length-placed 0 gs (cleared s))))
      ∙ omega arith

  pub length-loaded : length (loaded gs s) ≡ length s
  unfolding loaded
  length-loaded = length-tabled (table_length gs) (length gs) 0 (placed 0 gs (cleared s)) ∙ (length-placed 0 gs (cleared s) ∙ length-cleared-is)
