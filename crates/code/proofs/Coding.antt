-- Bytes of an instruction, and literals: a value is searched among those that are there, and entered behind them. Assumes nothing.
use Prim.Native.Nat.{ℕ, suc, ◌+◌, ◌*◌, ◌/◌, ◌%◌, ◌<◌, ◌≤◌}
use mathlib.Core.Path.{◌≡◌, refl, sym, ap, ◌∙◌}
use mathlib.Core.Bool.{Bool, true, false, not}
use mathlib.Core.List.{List, [], ◌∷◌, ◌++◌}
use native.Mathlib.Omega.{arith}
use native.Mathlib.Numerals.{add-one}
use lib.Dec.{eqb, ltb}
use lib.ListN.{length, take, set}
use lib.Seq.{sets, length-take-le, take-suc-set}
use borrow.Author.Tests.{ltb-false, eqb-true, eqb-false, eq-eqb, ne_eqb}
use Rattle.base.specs.Lists.{member}
use Rattle.base.specs.Runs.{run_len, index_of}
use Rattle.base.proofs.Tests.{cases}
use Rattle.translation.specs.Instructions.{literal}
use Rattle.translation.specs.Layout.{needs}
use Rattle.translation.specs.Bytes.{two_bytes, four_bytes}
use Rattle.emit.specs.declared.Code.{Code}
use Rattle.emit.specs.declared.Code.TheVariants.{Two, Four, Literal}
use Rattle.emit.specs.Codes.{code_size}
use Rattle.std.specs.List.{prefix_len, position}
use Rattle.std.specs.Option.{unwrap_or}
use Rattle.base.proofs.Runs.{run-le}
use Rattle.code.specs.Coding.{bytes_in, laid_of, code_bytes, literals_after, lay_code}

-- ── bytes ──

pub two-laid : (s t u : List ℕ) (at op r x : ℕ) → t ≡ set s at (op % 256) → u ≡ set t (at + 1) ((r % 256 * 16 + x % 256) % 256) → u ≡ sets s at (bytes_in (two_bytes op r x))
two-laid s t u at op r x e q =
    let b : (r % 256 * 16 + x % 256) % 256 ≡ (r * 16 + x) % 256 = omega arith in
    let p : at + 1 ≡ suc at = omega arith in
    q ∙ rw (e, b, p)

pub four-laid : (s t u v w : List ℕ) (at op r x b d : ℕ) → t ≡ set s at (op % 256) → u ≡ set t (at + 1) ((r % 256 * 16 + x % 256) % 256)
    → v ≡ set u (at + 2) ((b % 256 * 16 + d / 256) % 256) → w ≡ set v (at + 3) (d % 256 % 256) → w ≡ sets s at (bytes_in (four_bytes op r x b d))
four-laid s t u v w at op r x b d e q y z =
    let c : (r % 256 * 16 + x % 256) % 256 ≡ (r * 16 + x) % 256 = omega arith in
    let f : (b % 256 * 16 + d / 256) % 256 ≡ (b * 16 + d / 256) % 256 = omega arith in
    let p : at + 1 ≡ suc at = omega arith in
    let p2 : at + 2 ≡ suc (suc at) = omega arith in
    let p3 : at + 3 ≡ suc (suc (suc at)) = omega arith in
    z ∙ rw (y, q, e, c, f, p, p2, p3)

-- ── literals ──

prefix-is : (p : ℕ → Bool) (l : List ℕ) → prefix_len p l ≡ run_len p l
unfolding run_len
prefix-is p [] = refl
prefix-is p (x ∷ l) = cases (p x) (λ e. rw (e, run_len, prefix_len) (omega (arith, prefix-is p l))) (λ e. rw (e, run_len, prefix_len))

-- a search among a list's numbers is its `position`
pub found_is : (v : ℕ) (l : List ℕ) (n r : ℕ) → n ≡ length l → r ≡ unwrap_or (position (λ (x : ℕ). eqb x v) l) n → (r ≡ index_of v l) × (r ≤ n)
found_is v l n r h q =
    let m : ℕ = prefix_len (λ (x : ℕ). not (eqb x v)) l in
    let e : m ≡ index_of v l = prefix-is (λ (x : ℕ). not (eqb x v)) l in
    let k : index_of v l ≤ length l = run-le (λ (x : ℕ). not (eqb x v)) l in
    cases (ltb m (length l)) (λ b. let s : r ≡ m = rw b at q in (s ∙ e, omega (arith, s, e, k, h)))
    (λ b. let s : r ≡ n = rw b at q in let o : length l ≤ m = ltb-false m (length l) b in (omega (arith, s, h, o, e, k), omega (arith, s)))

module _ (v : ℕ) where
  not-member : (l : List ℕ) → index_of v l ≡ length l → member v l ≡ false
  unfolding run_len
  not-member [] h = refl
  not-member (y ∷ l) h =
      cases (eqb y v)
      (λ e. absurd (let q : index_of v (y ∷ l) ≡ 0 = rw (e, run_len) in omega arith))
      (λ e.
      let n = eqb-false y v e in
      let q : index_of v (y ∷ l) ≡ suc (index_of v l) = rw (e, run_len) in
      rw (ne_eqb v y (λ z. n (sym z))) (not-member l (omega arith)))

  is_member : (l : List ℕ) → index_of v l < length l → member v l ≡ true
  unfolding run_len
  is_member [] h = absurd (omega arith)
  is_member (y ∷ l) h =
      cases (eqb y v)
      (λ e. rw (eq-eqb v y (sym (eqb-true y v e))))
      (λ e.
      let n = eqb-false y v e in
      let q : index_of v (y ∷ l) ≡ suc (index_of v l) = rw (e, run_len) in
      rw (ne_eqb v y (λ z. n (sym z))) (is_member l (omega arith)))

  index-new : (l : List ℕ) → index_of v l ≡ length l → index_of v (l ++ (v ∷ [])) ≡ length l
  unfolding run_len
  index-new [] h = rw (eq-eqb v v refl, run_len)
  index-new (y ∷ l) h =
      cases (eqb y v)
      (λ e. absurd (let q : index_of v (y ∷ l) ≡ 0 = rw (e, run_len) in omega arith))
      (λ e.
      let q : index_of v (y ∷ l) ≡ suc (index_of v l) = rw (e, run_len) in
      let r : index_of v ((y ∷ l) ++ (v ∷ [])) ≡ suc (index_of v (l ++ (v ∷ []))) = rw (e, run_len) in
      r ∙ ap suc (index-new l (omega arith)))

  module _ (l : List ℕ) (count : ℕ) (h : count ≤ length l) where
    pub found-needs : (place : ℕ) → place ≡ index_of v (take count l) → place ≤ count → (place ≡ count → ⊥) → take count l ≡ needs (literal v) (take count l)
    found-needs place e b n = let n' : index_of v (take count l) < length (take count l) = omega (arith, length-take-le count l h, e, b, differ place count n b) in rw (is_member (take count l) n')
      where
        differ : (a b : ℕ) → (a ≡ b → ⊥) → a ≤ b → a < b
        differ a b n h = omega arith

  module _ (l : List ℕ) (count : ℕ) (h : count < length l) (place : ℕ) (e : place ≡ index_of v (take count l)) (c : place ≡ count) where
    none-there : index_of v (take count l) ≡ length (take count l)
    none-there = omega (arith, length-take-le count l (omega arith), e, c)

    longer : take (count + 1) (set l count v) ≡ take count l ++ (v ∷ [])
    longer = rw (add-one count) (take-suc-set l count v h)

    pub new-needs : (m : List ℕ) → m ≡ set l count v → take (count + 1) m ≡ needs (literal v) (take count l)
    new-needs m q = rw q (longer ∙ rw (not-member (take count l) none-there))

    pub new-place : (m : List ℕ) → m ≡ set l count v → place ≡ index_of v (take (count + 1) m)
    new-place m q = rw (q, longer, index-new (take count l) none-there) (c ∙ sym (length-take-le count l (omega arith)))

-- ── an instruction ──

module _ (start at : ℕ) (image seen : List ℕ) (c : Code) where
  pub lay-two : {image' : List ℕ} (op r s : ℕ) → c ≡ Two op r s → image' ≡ sets image at (bytes_in (two_bytes op r s))
      → laid_of (at + code_size c) image' seen ≡ lay_code start c (laid_of at image seen)
  unfolding lay_code code_bytes literals_after
  lay-two op r s e q = rw (q, e)

  pub lay-four : {image' : List ℕ} (op r x b d : ℕ) → c ≡ Four op r x b d → image' ≡ sets image at (bytes_in (four_bytes op r x b d))
      → laid_of (at + code_size c) image' seen ≡ lay_code start c (laid_of at image seen)
  unfolding lay_code code_bytes literals_after
  lay-four op r x b d e q = rw (q, e)

  pub lay-literal : {image' after : List ℕ} (op r x v place : ℕ) → c ≡ Literal op r x v → after ≡ needs (literal v) seen → place ≡ index_of v after
      → image' ≡ sets image at (bytes_in (four_bytes op r x 14 (start + 4 * place))) → laid_of (at + code_size c) image' after ≡ lay_code start c (laid_of at image seen)
  unfolding lay_code code_bytes literals_after
  lay-literal op r x v place e a p q = rw (q, p, a, e)
