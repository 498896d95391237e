-- The storage map of a program whose layout fits: table entries, cells and literals lie in it, and program, table and literals cannot be stored to (`mapped`).
use mathlib.Core.Path.{◌≡◌, refl, ap, ◌∙◌}
use mathlib.Core.List.{List, map}
use mathlib.Core.Bool.{Bool, true, false, ◌&&◌}
use Prim.Native.Nat.{ℕ, zero, suc, ◌+◌, ◌*◌, ◌/◌, ◌%◌, ◌<◌, ◌≤◌}
use native.Mathlib.Omega.{arith}
use native.Mathlib.Decide.{dec_le}
use lib.Dec.{leb}
use lib.ListN.{length, get_or, replicate, length-replicate}
use lib.Seq.{length-sets}
use borrow.Author.Tests.{le-leb, lt-leb, ne_eqb}
use Rattle.objtext.specs.Object.{Segment}
use Rattle.machine.specs.Space.{Space, room, origin, readable, writable}
use Rattle.runner.specs.Load.{end_of, from_of, to_of, space_of}
use Rattle.translation.specs.Instructions.{Instruction}
use Rattle.translation.specs.Layout.{Layout, table_bytes, cells_end, literals_end}
use Rattle.translation.specs.Bytes.{encode_all}
use Rattle.translation.specs.Image.{fill, words, end_of_first, first_data, data_of, data_from, segments}
use Rattle.translation.proofs.Rooms.{start_of}
use Rattle.translation.proofs.Images.{Fitting, fill-length, end-first}
use Rattle.join.proofs.Loading.{Mapped}

-- ── a place in segment k ──

module _ (m : Space) (k o z : ℕ) (near : o < room) where
  page : (origin k + o) / room ≡ suc k
  page = omega arith

  rest : (origin k + o) % room ≡ o
  rest = omega arith

  readable-at : o + z ≤ m.end (suc k) → readable m (origin k + o) z ≡ true
  readable-at h = rw (page, rest) (le-leb (o + z) (m.end (suc k)) h)

  writable-at : m.from (suc k) ≤ o → o + z ≤ m.to (suc k) → writable m (origin k + o) z ≡ true
  writable-at g h = rw (page, rest, le-leb (m.from (suc k)) o g, le-leb (o + z) (m.to (suc k)) h)

and-false : (b : Bool) → (b && false) ≡ false
and-false true = refl
and-false false = refl

-- a byte past what is writable of its page, or before it
past : (m : Space) (a p : ℕ) → a / room ≡ p → m.to p ≤ a % room → writable m a 1 ≡ false
past m a p e h = rw (e, lt-leb (a % room + 1) (m.to p) (omega arith)) (and-false (leb (m.from p) (a % room)))

before : (m : Space) (a p : ℕ) → a / room ≡ p → a % room < m.from p → writable m a 1 ≡ false
before m a p e h = rw (e, lt-leb (m.from p) (a % room) h)

-- ── the segments of a program ──

-- segment k + j, of those from number k on
data-at : (f : Segment → ℕ) (l : Layout) (k n j : ℕ) → j < n → get_or (map f (data_from l k n)) j 0 ≡ f (data_of l (k + j))
data-at f l k zero j h = absurd (omega arith)
data-at f l k (suc n) zero h = let e : k ≡ k + 0 = omega arith in ap (λ (i : ℕ). f (data_of l i)) e
data-at f l k (suc n) (suc j) h = let e : suc k + j ≡ k + suc j = omega arith in data-at f l (suc k) n j (omega arith) ∙ ap (λ (i : ℕ). f (data_of l i)) e

-- segment j + 2 of a program's
later-at : (f : Segment → ℕ) (l : Layout) (n j : ℕ) → j < n → get_or (map f (data_from l 2 n)) j 0 ≡ f (data_of l (suc (suc j)))
later-at f l n j h = let e : 2 + j ≡ suc (suc j) = omega arith in data-at f l 2 n j h ∙ ap (λ (i : ℕ). f (data_of l i)) e

end-data : (l : Layout) (k : ℕ) → end_of (data_of l k) ≡ cells_end l k
unfolding data_of
end-data l k = fill-length k l.placed (replicate (cells_end l k) 0) ∙ length-replicate {A = ℕ} (cells_end l k) 0

pub end-first_data : (l : Layout) → end_of (first_data l) ≡ end_of_first l
unfolding first_data
end-first_data l =
    length-sets (fill 1 l.placed (replicate (end_of_first l) 0)) l.literals_at (words l.literals)
    ∙ (fill-length 1 l.placed (replicate (end_of_first l) 0) ∙ length-replicate {A = ℕ} (end_of_first l) 0)

-- with a literal the first data segment ends with the last
pub with-literals : (l : Layout) → 0 < length l.literals → end_of_first l ≡ literals_end l
with-literals l h = rw (ne_eqb (length l.literals) 0 (λ e. omega arith))

module _ (n : ℕ) (l : Layout) (is : List Instruction) where
  abbrev map_of : Space
  map_of = space_of (segments n l is)

  -- ── by page: none, the program, segment 1, the others ──

  ends-none : (map_of.to 0 ≡ 0) × (map_of.to 1 ≡ 0)
  unfolding space_of segments
  ends-none = (refl, refl)

  first-is : (map_of.end 2 ≡ end_of_first l) × (map_of.from 2 ≡ table_bytes) × (map_of.to 2 ≡ cells_end l 1)
  unfolding space_of segments first_data
  first-is = (end-first_data l, refl, refl)

  later-is : (j : ℕ) → j < n
      → (map_of.end (suc (suc (suc j))) ≡ cells_end l (suc (suc j))) × (map_of.from (suc (suc (suc j))) ≡ 0) × (map_of.to (suc (suc (suc j))) ≡ cells_end l (suc (suc j)))
  unfolding space_of segments data_of
  later-is j h = (later-at end_of l n j h ∙ end-data l (suc (suc j)), later-at from_of l n j h, later-at to_of l n j h)

  module _ (h : Fitting l) (few : n ≤ 2) (aligned : l.literals_at % 4 ≡ 0) where
    first-long : (cells_end l 1 ≤ map_of.end 2) × (table_bytes ≤ map_of.end 2)
    first-long = let e = first-is.0 in let f = (end-first l h).0 in let s = h.start in (omega arith, omega arith)

    -- the cells of segment k
    cells_in : (k : ℕ) → 1 ≤ k → k < 2 + n → (cells_end l k ≤ map_of.end (suc k)) × (map_of.from (suc k) ≡ start_of k) × (map_of.to (suc k) ≡ cells_end l k)
    cells_in zero a b = absurd (omega arith)
    cells_in (suc zero) a b = (first-long.0, first-is.1, first-is.2)
    cells_in (suc (suc j)) a b = let e = later-is j (omega arith) in let f = e.0 in (omega arith, e.1, e.2)

    cell_in : (k o z : ℕ) → 1 ≤ k → k < 2 + n → start_of k ≤ o → 0 < z → o + z ≤ cells_end l k
        → (readable map_of (origin k + o) z ≡ true) × (writable map_of (origin k + o) z ≡ true)
    cell_in k o z a b low some high =
        let e = cells_in k a b in
        let x = e.0 in
        let y = e.1 in
        let t = e.2 in
        let r = h.ends k in
        (readable-at map_of k o z (omega arith) (omega arith), writable-at map_of k o z (omega arith) (omega arith) (omega arith))

    literal-in : (i : ℕ) → i < length l.literals → readable map_of (origin 1 + (l.literals_at + 4 * i)) 4 ≡ true
    literal-in i g =
        let e = first-is.0 ∙ with-literals l (omega arith) in
        let r = h.room in
        readable-at map_of 1 (l.literals_at + 4 * i) 4 (omega arith) (omega arith)

    entry_in : (k : ℕ) → k < 2 + n → readable map_of (origin 1 + 4 * k) 4 ≡ true
    entry_in k g = let e = first-long.1 in readable-at map_of 1 (4 * k) 4 (omega arith) (omega arith)

    literal-fixed : (a : ℕ) → l.literals_at ≤ a → a < room → writable map_of (origin 1 + a) 1 ≡ false
    literal-fixed a low near =
        let e = first-is.2 in
        let g = h.at in
        let r = rest map_of 1 a 1 near in
        past map_of (origin 1 + a) 2 (page map_of 1 a 1 near) (omega arith)

    below-fixed : (a : ℕ) → a < origin 1 + table_bytes → writable map_of a 1 ≡ false
    below-fixed a g = go (dec_le (origin 0) a) (dec_le (origin 1) a)
      where
        go : Dec (origin 0 ≤ a) → Dec (origin 1 ≤ a) → writable map_of a 1 ≡ false
        go (no u) v = let e = ends-none.0 in past map_of a 0 (omega arith) (omega arith)
        go (yes u) (no v) = let e = ends-none.1 in past map_of a 1 (omega arith) (omega arith)
        go (yes u) (yes v) = let e = first-is.1 in before map_of a 2 (omega arith) (omega arith)

    program-length : map_of.program ≡ length (encode_all l is)
    unfolding space_of segments
    program-length = refl

    pub mapped : Mapped n l (length (encode_all l is)) (space_of (segments n l is))
    mapped = record {
      length-is = program-length;
      few = few;
      below = below-fixed;
      fixed = literal-fixed;
      entries = entry_in;
      cells = cell_in;
      literals = literal-in;
      cells-room = h.ends;
      literals_room = h.room;
      literals-aligned = aligned;
    }
