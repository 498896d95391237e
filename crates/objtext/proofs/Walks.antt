-- What is known along a text that is an object's: at each segment its head is right (`Walked`, `Walk`), so its length is at most 4,096. Assumes nothing.
use Prim.Native.Nat.{ℕ, zero, suc, ◌+◌, ◌-◌, ◌<◌, ◌≤◌}
use mathlib.Core.Path.{◌≡◌, refl, sym, ap, subst}
use mathlib.Core.Bool.{Bool, true, false, ◌&&◌}
use mathlib.Core.List.{List, [], ◌∷◌}
use mathlib.Core.Option.{none, some}
use native.Mathlib.Omega.{arith}
use lib.Dec.{T, leb, eqb}
use lib.ListN.{length, drop}
use borrow.Author.Tests.{leb-true}
use Rattle.base.proofs.Tests.{cases}
use Rattle.base.proofs.Lists.{none-some}
use Rattle.objtext.specs.Object.{Segment, frames_for, program_limit, data_limit}
use Rattle.std.specs.Prelude as P
use Rattle.objtext.specs.Reader.{byte_of, head_length, head_from, head_to, is_line, is_content, also, is_program, program_at, after_program, is_data, data_at, after_data, is_last, Read, push, on_segment, at_last, read_data, read_object, data_list, segment_list, read_as, data_line, program_line, program_head_bytes, data_head_bytes}

-- n data segments, numbered from k on, stand at the front
abbrev pub Walked : ℕ → ℕ → List ℕ → Type 0
Walked zero k s = Unit {0}
Walked (suc n) k s = (is_data k s ≡ true) × Walked n (suc k) (after_data s)

pub record Walk (n : ℕ) (t : List ℕ) : Type 0 where
  pub some : 2 ≤ n
  pub few : n ≤ 4
  pub program : is_program 0 t ≡ true
  pub data-segments : Walked (n - 1) 1 (after_program t)

-- ── what a reading that is no refusal says ──

-- a segment was read, and others behind it
pub record Behind (b : Bool) (next : Unit {0} → Read) (g : Segment) (gs : List Segment) : Type 0 where
  pub is : b ≡ true
  pub others : List Segment
  pub read : next tt ≡ some others
  pub whole : gs ≡ g ∷ others

pub behind : (b : Bool) (next : Unit {0} → Read) (g : Segment) (gs : List Segment) → on_segment b g next ≡ some gs → Behind b next g gs
unfolding on_segment push
behind false next g gs e = absurd (none-some gs e)
behind true next g gs e = go (next tt) refl e
  where
    go : (r : Read) → next tt ≡ r → push g r ≡ some gs → Behind true next g gs
    go none q f = absurd (none-some gs f)
    go (some hs) q f = record { is = refl; others = hs; read = q; whole = cc }

pub at-end : (b : Bool) (next : Unit {0} → Read) (gs : List Segment) → at_last b next ≡ some gs → (b ≡ true → length gs ≡ 0) × (b ≡ false → next tt ≡ some gs)
unfolding at_last
at-end true next gs e = (λ h. ap length (let q : gs ≡ [] = cc in q), λ h. absurd (subst T h tt))
at-end false next gs e = (λ h. absurd (subst T (sym h) tt), λ h. e)

data-walked : (m k : ℕ) (s : List ℕ) (gs : List Segment) → read_data m k s ≡ some gs → Walked (length gs) k s × (length gs ≤ m)
unfolding read_data
data-walked zero k s gs e =
    cases (is_last s)
    (λ h. let z = (at-end (is_last s) (λ u. none) gs e).0 h in (subst (λ (n : ℕ). Walked n k s) (sym z) tt, omega arith))
    (λ h. absurd (none-some gs ((at-end (is_last s) (λ u. none) gs e).1 h)))
data-walked (suc m) k s gs e =
    cases (is_last s)
    (λ h. let z = a.0 h in (subst (λ (n : ℕ). Walked n k s) (sym z) tt, omega arith))
    (λ h. go (behind (is_data k s) (λ v. read_data m (suc k) (after_data s)) (data_at s) gs (a.1 h)) (λ hs q. data-walked m (suc k) (after_data s) hs q))
  where
    a : (is_last s ≡ true → length gs ≡ 0) × (is_last s ≡ false → on_segment (is_data k s) (data_at s) (λ v. read_data m (suc k) (after_data s)) ≡ some gs)
    a = at-end (is_last s) (λ u. on_segment (is_data k s) (data_at s) (λ v. read_data m (suc k) (after_data s))) gs e

    go : Behind (is_data k s) (λ v. read_data m (suc k) (after_data s)) (data_at s) gs
        → ((hs : List Segment) → read_data m (suc k) (after_data s) ≡ some hs → Walked (length hs) (suc k) (after_data s) × (length hs ≤ m)) → Walked (length gs) k s × (length gs ≤ suc m)
    go b ih =
        let w = ih b.others b.read in
        let l : length gs ≡ suc (length b.others) = ap length b.whole in
        (subst (λ (n : ℕ). Walked n k s) (sym l) (b.is, w.0), (let h = w.1 in omega arith))

pub length-list : (n : ℕ) (s : List ℕ) → length (data_list n s) ≡ n
length-list zero s = refl
length-list (suc n) s = ap suc (length-list n (after_data s))

pub object-walk : (n : ℕ) (t : List ℕ) → read_as (P.Some n) t ≡ read_object t → Walk n t
unfolding read_as read_object
object-walk zero t e = absurd (let b = behind (is_program 0 t) (λ u. on_segment (is_data 1 (after_program t)) (data_at (after_program t)) (λ v. read_data 2 2 (after_data (after_program t)))) (program_at t) [] (sym e) in let l = ap length b.whole in omega arith)
object-walk (suc n) t e = first (behind (is_program 0 t) second (program_at t) (segment_list (suc n) t) (sym e))
  where
    third : Unit {0} → Read
    third v = read_data 2 2 (after_data (after_program t))

    second : Unit {0} → Read
    second u = on_segment (is_data 1 (after_program t)) (data_at (after_program t)) third

    first : Behind (is_program 0 t) second (program_at t) (segment_list (suc n) t) → Walk (suc n) t
    first b = rest (behind (is_data 1 (after_program t)) third (data_at (after_program t)) b.others b.read)
      where
        rest : Behind (is_data 1 (after_program t)) third (data_at (after_program t)) b.others → Walk (suc n) t
        rest d =
            let w = data-walked 2 2 (after_data (after_program t)) d.others d.read in
            let f = w.1 in
            let l : length (segment_list (suc n) t) ≡ suc (length b.others) = ap length b.whole in
            let m : length b.others ≡ suc (length d.others) = ap length d.whole in
            let o = length-list n (after_program t) in
            let q : suc (length d.others) ≡ suc n - 1 = omega arith in
            record { some = omega arith; few = omega arith; program = b.is; data-segments = subst (λ (j : ℕ). Walked j 1 (after_program t)) q (d.is, w.0) }

pub read_as_lem : (n : ℕ) (t : List ℕ) → read_as (P.Some n) t ≡ read_object t → read_object t ≡ some (segment_list n t)
unfolding read_as
read_as_lem n t e = sym e

-- ── lengths ──

short-head : (b : Bool) (n l : ℕ) (next : Unit {0} → Bool) → also (b && leb n l) next ≡ true → n ≤ l
short-head b n l next e = cases (leb n l) (λ h. leb-true n l h) (λ h. absurd (no b (leb n l) h e))
  where
    no : (b c : Bool) → c ≡ false → also (b && c) next ≡ true → ⊥
    no true c h q = subst T (ap (λ (x : Bool). also x next) h) (subst T (sym q) tt)
    no false c h q = subst T (sym q) tt

pub program-short : (k : ℕ) (s : List ℕ) → is_program k s ≡ true → head_length s ≤ program_limit
unfolding is_program
program-short k s e =
    short-head (is_line program_head_bytes s && eqb (byte_of s) 1 && eqb (byte_of (drop 2 s)) k) (head_length s) program_limit
    (λ u. is_content (frames_for (head_length s)) k 0 (head_length s) (drop program_line s)) e

pub data-short : (k : ℕ) (s : List ℕ) → is_data k s ≡ true → head_length s ≤ data_limit
unfolding is_data
data-short k s e =
    short-head (is_line data_head_bytes s && eqb (byte_of s) 2 && eqb (byte_of (drop 2 s)) k && leb (head_from s) (head_to s) && leb (head_to s) (head_length s)) (head_length s) data_limit
    (λ u. is_content (frames_for (head_length s)) k 0 (head_length s) (drop data_line s)) e

-- one segment on
pub walked_on : (n k : ℕ) (s : List ℕ) → 0 < n → Walked n k s → (is_data k s ≡ true) × Walked (n - 1) (k + 1) (after_data s)
walked_on zero k s h w = absurd (omega arith)
walked_on (suc n) k s h w =
    let e : suc n - 1 ≡ n = omega arith in
    let f : k + 1 ≡ suc k = omega arith in
    (w.0, rw (e, f) w.1)
