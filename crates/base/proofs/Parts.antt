-- Parts of lists as code cuts, reads and lays them: `to_end` for a part that goes to the end, `past-get` and `past-set` for places past the end,
-- `take_min` for a part of a part, laws of `sets`, and `drop-turn` for a loop that moves one element on. Assumes nothing.
use Prim.Native.Nat.{ℕ, zero, suc, ◌+◌, ◌-◌, ◌≤◌, ◌<◌, min}
use mathlib.Core.Path.{◌≡◌, refl, sym, ap, ◌∙◌}
use mathlib.Core.Logic.{◌⊎◌, inl, inr}
use mathlib.Core.List.{List, [], ◌∷◌, ◌++◌}
use native.Mathlib.Omega.{arith}
use native.Mathlib.Numerals.{add-one}
use native.Mathlib.Decide.{dec_le}
use native.Mathlib.Nat.{add-zero}
use lib.ListN.{length, take, drop, get_or, set, length-take, length-drop, length-set, get_or-eq_default}
use lib.Seq.{take_all, take-take, drop-cons, set_out, get_or-set_same, get_or-set_other, sets, length-sets, set_comm, get_or-drop, get_or-take, ext_get_or}

module _ {A : Type 0} where
  pub to_end : (s : List A) (n : ℕ) → take (length s - n) (drop n s) ≡ drop n s
  to_end s n = take_all (length s - n) (drop n s) (omega (arith, length-drop n s))

  -- one element on, with the code's `i + 1`
  pub drop-turn : (s : List A) (i : ℕ) (d : A) → i < length s → drop i s ≡ get_or s i d ∷ drop (i + 1) s
  drop-turn s i d h = rw (add-one i) (drop-cons s i d h)

  pub past-get : (l : List A) (i n : ℕ) (d : A) → length l ≡ n → n ≤ i → d ≡ get_or l i d
  past-get l i n d e h = sym (get_or-eq_default l d (rw e h))

  pub past-set : (l : List A) (i n : ℕ) (v : A) → length l ≡ n → n ≤ i → l ≡ set l i v
  past-set l i n v e h = sym (set_out l i v (rw e h))

  pub take_min : (m n : ℕ) (s : List A) → take m (take n s) ≡ take (min m n) s
  take_min m n s = go (dec_le m n)
    where
      go : Dec (m ≤ n) → take m (take n s) ≡ take (min m n) s
      go (yes h) = let e : min m n ≡ m = omega arith in rw e (take-take m n s h)
      go (no h) = let e : min m n ≡ n = omega arith in rw e (take_all m (take n s) (omega (arith, length-take n s)))

  -- a part of n elements from a place
  pub length_part : (s : List A) (at n : ℕ) → at + n ≤ length s → length (take n (drop at s)) ≡ n
  length_part s at n h = omega (arith, length-take n (drop at s), length-drop at s)

  pub get_d_part : (s : List A) (at n i : ℕ) (d : A) → i < n → get_or (take n (drop at s)) i d ≡ get_or s (at + i) d
  get_d_part s at n i d h = get_or-take n (drop at s) i d h ∙ get_or-drop at s i d

  -- two lists that agree on n places from `at` have one part there
  pub same-part : (s t : List A) (at n : ℕ) (d : A) → length s ≡ length t → ((i : ℕ) → i < n → get_or s (at + i) d ≡ get_or t (at + i) d) → take n (drop at s) ≡ take n (drop at t)
  same-part s t at n d e f =
      ext_get_or d (take n (drop at s)) (take n (drop at t))
      (simp (length-take, length-drop, e))
      (λ i h.
      let l : i < n = omega (arith, length-take n (drop at s)) in
      get_d_part s at n i d l ∙ f i l ∙ sym (get_d_part t at n i d l))

  -- what is laid by `sets`
  pub sets-append : (l : List A) (i : ℕ) (vs ws : List A) → sets l i (vs ++ ws) ≡ sets (sets l i vs) (i + length vs) ws
  sets-append l i [] ws = rw (add-zero i)
  sets-append l i (v ∷ vs) ws =
      let e : suc i + length vs ≡ i + suc (length vs) = omega arith in
      sets-append (set l i v) (suc i) vs ws ∙ rw e

  -- before and after what is laid every element stays
  pub sets-before : (l : List A) (i : ℕ) (vs : List A) (k : ℕ) (d : A) → k < i → get_or (sets l i vs) k d ≡ get_or l k d
  sets-before l i [] k d h = refl
  sets-before l i (v ∷ vs) k d h = sets-before (set l i v) (suc i) vs k d (omega arith) ∙ get_or-set_other l i k v d (λ e. omega arith)

  pub sets-after : (l : List A) (i : ℕ) (vs : List A) (k : ℕ) (d : A) → i + length vs ≤ k → get_or (sets l i vs) k d ≡ get_or l k d
  sets-after l i [] k d h = refl
  sets-after l i (v ∷ vs) k d h = sets-after (set l i v) (suc i) vs k d (omega arith) ∙ get_or-set_other l i k v d (λ e. omega arith)

  -- what is laid stands there
  pub sets-there : (l : List A) (i : ℕ) (vs : List A) (k : ℕ) (d : A) → i + length vs ≤ length l → k < length vs → get_or (sets l i vs) (i + k) d ≡ get_or vs k d
  sets-there l i [] k d h q = absurd (omega arith)
  sets-there l i (v ∷ vs) zero d h q =
      rw (add-zero i) (sets-before (set l i v) (suc i) vs i d (omega arith) ∙ get_or-set_same l i v d (omega arith))
  sets-there l i (v ∷ vs) (suc k) d h q =
      let e : i + suc k ≡ suc i + k = omega arith in
      rw e (sets-there (set l i v) (suc i) vs k d (omega (arith, length-set l i v)) (omega arith))

  pub part-sets : (l : List A) (i : ℕ) (vs : List A) (d : A) → i + length vs ≤ length l → take (length vs) (drop i (sets l i vs)) ≡ vs
  part-sets l i vs d h =
      let n : length (take (length vs) (drop i (sets l i vs))) ≡ length vs = length_part (sets l i vs) i (length vs) (omega (arith, length-sets l i vs)) in
      ext_get_or d (take (length vs) (drop i (sets l i vs))) vs n (λ k q.
      let q' : k < length vs = omega arith in
      get_d_part (sets l i vs) i (length vs) k d q' ∙ sets-there l i vs k d h q')

  -- a part that lies apart from what is laid stays
  pub part-elsewhere : (l : List A) (i : ℕ) (vs : List A) (at n : ℕ) (d : A) → (at + n ≤ i) ⊎ (i + length vs ≤ at) → take n (drop at (sets l i vs)) ≡ take n (drop at l)
  part-elsewhere l i vs at n d (inl h) = same-part (sets l i vs) l at n d (length-sets l i vs) (λ k q. sets-before l i vs (at + k) d (omega arith))
  part-elsewhere l i vs at n d (inr h) = same-part (sets l i vs) l at n d (length-sets l i vs) (λ k q. sets-after l i vs (at + k) d (omega arith))

  -- the last element may be laid first
  pub sets_last : (l : List A) (i : ℕ) (vs : List A) (x : A) → sets l i (vs ++ (x ∷ [])) ≡ sets (set l (i + length vs) x) i vs
  sets_last l i [] x = rw (add-zero i)
  sets_last l i (v ∷ vs) x =
      let e : suc i + length vs ≡ i + suc (length vs) = omega arith in
      sets_last (set l i v) (suc i) vs x
      ∙ rw e (ap (λ (r : List A). sets r (suc i) vs) (set_comm l i (i + suc (length vs)) v x (λ q. omega arith)))
