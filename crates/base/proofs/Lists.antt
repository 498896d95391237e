-- What is in a list, and what holds of all that is in it. Assumes nothing.
use Prim.Native.Nat.{ℕ, zero, suc, ◌<◌}
use mathlib.Core.Path.{◌≡◌, refl, sym, subst}
use mathlib.Core.Logic.{◌⊎◌, inl, inr}
use mathlib.Core.Bool.{Bool, true, false, ◌||◌}
use mathlib.Core.List.{List, [], ◌∷◌, ◌++◌, map}
use mathlib.Core.Option.{none, some}
use native.Mathlib.Omega.{arith}
use lib.Dec.{eqb}
use lib.ListN.{length, take, drop, get_or, set, replicate}
use lib.Seq.{sets}
use borrow.Author.Tests.{eqb-true, eq-eqb}
use Rattle.base.specs.Lists.{◌∈◌, All, member}
use Rattle.base.proofs.Tests.{never_true}

module _ {A : Type 0} where
  pub in_left : (x : A) (s t : List A) → x ∈ s → x ∈ (s ++ t)
  in_left x [] t h = absurd h
  in_left x (y ∷ s) t (inl e) = inl e
  in_left x (y ∷ s) t (inr h) = inr (in_left x s t h)

  pub in_right : (x : A) (s t : List A) → x ∈ t → x ∈ (s ++ t)
  in_right x [] t h = h
  in_right x (y ∷ s) t h = inr (in_right x s t h)

  pub in_either : (x : A) (s t : List A) → x ∈ (s ++ t) → (x ∈ s) ⊎ (x ∈ t)
  in_either x [] t h = inr h
  in_either x (y ∷ s) t (inl e) = inl (inl e)
  in_either x (y ∷ s) t (inr h) = go (in_either x s t h)
    where
      go : (x ∈ s) ⊎ (x ∈ t) → (x ∈ (y ∷ s)) ⊎ (x ∈ t)
      go (inl k) = inl (inr k)
      go (inr k) = inr k

module _ {A : Type 0} (P : A → Type 0) where
  pub all_in : (l : List A) → All P l → (x : A) → x ∈ l → P x
  all_in [] a x h = absurd h
  all_in (y ∷ l) a x (inl e) = subst P (sym e) a.0
  all_in (y ∷ l) a x (inr h) = all_in l a.1 x h

  pub all_of : (l : List A) → ((x : A) → x ∈ l → P x) → All P l
  all_of [] f = tt
  all_of (y ∷ l) f = (f y (inl refl), all_of l (λ x h. f x (inr h)))

  pub all_both : (s t : List A) → All P s → All P t → All P (s ++ t)
  all_both [] t a b = b
  all_both (x ∷ s) t a b = (a.0, all_both s t a.1 b)

  pub all_first : (s t : List A) → All P (s ++ t) → All P s
  all_first [] t a = tt
  all_first (x ∷ s) t a = (a.0, all_first s t a.1)

  pub all-last : (s t : List A) → All P (s ++ t) → All P t
  all-last [] t a = a
  all-last (x ∷ s) t a = all-last s t a.1

  pub all_take : (n : ℕ) (l : List A) → All P l → All P (take n l)
  all_take zero l a = tt
  all_take (suc n) [] a = tt
  all_take (suc n) (x ∷ l) a = (a.0, all_take n l a.1)

  pub all_drop : (n : ℕ) (l : List A) → All P l → All P (drop n l)
  all_drop zero l a = a
  all_drop (suc n) [] a = tt
  all_drop (suc n) (x ∷ l) a = all_drop n l a.1

  pub all_set : (l : List A) (i : ℕ) (v : A) → All P l → P v → All P (set l i v)
  all_set [] i v a p = tt
  all_set (x ∷ l) zero v a p = (p, a.1)
  all_set (x ∷ l) (suc i) v a p = (a.0, all_set l i v a.1 p)

  pub all-sets : (l : List A) (i : ℕ) (vs : List A) → All P l → All P vs → All P (sets l i vs)
  all-sets l i [] a b = a
  all-sets l i (v ∷ vs) a b = all-sets (set l i v) (suc i) vs (all_set l i v a b.0) b.1

  pub all_replicate : (n : ℕ) (v : A) → P v → All P (replicate n v)
  all_replicate zero v p = tt
  all_replicate (suc n) v p = (p, all_replicate n v p)

  pub all_get_d : (l : List A) (i : ℕ) (d : A) → All P l → P d → P (get_or l i d)
  all_get_d [] i d a p = p
  all_get_d (x ∷ l) zero d a p = a.0
  all_get_d (x ∷ l) (suc i) d a p = all_get_d l i d a.1 p

  -- from the elements by their places
  pub all-at : (l : List A) (d : A) → ((i : ℕ) → i < length l → P (get_or l i d)) → All P l
  all-at [] d f = tt
  all-at (x ∷ l) d f = (f 0 (omega arith), all-at l d (λ i h. f (suc i) (omega arith)))

  pub all_map : (Q : A → Type 0) (l : List A) → ((x : A) → P x → Q x) → All P l → All Q l
  all_map Q [] f a = tt
  all_map Q (x ∷ l) f a = (f x a.0, all_map Q l f a.1)

-- the test `member`, and being an element
pub member-in : (x : ℕ) (l : List ℕ) → member x l ≡ true → x ∈ l
member-in x [] h = never_true h
member-in x (y ∷ l) h = go (eqb x y) refl (λ k. member-in x l k)
  where
    go : (b : Bool) → eqb x y ≡ b → (member x l ≡ true → x ∈ l) → (x ≡ y) ⊎ (x ∈ l)
    go true e f = inl (eqb-true x y e)
    go false e f = inr (f (rw e at h))

pub in-member : (x : ℕ) (l : List ℕ) → x ∈ l → member x l ≡ true
in-member x [] h = absurd h
in-member x (y ∷ l) (inl e) = rw (eq-eqb x y e)
in-member x (y ∷ l) (inr h) = go (eqb x y) (in-member x l h)
  where
    go : (b : Bool) → member x l ≡ true → (b || member x l) ≡ true
    go true e = refl
    go false e = e

-- what holds at each number of a table holds at each that passes the test
pub each : (P : ℕ → Type 0) (l : List ℕ) → All P l → (x : ℕ) → member x l ≡ true → P x
each P l a x h = all_in P l a x (member-in x l h)

-- what is in a list of images is the image of something in the list
pub map-in : {A B : Type 0} (f : A → B) (y : B) (xs : List A) → y ∈ map f xs → (x : A) × (x ∈ xs) × (y ≡ f x)
map-in f y [] h = absurd h
map-in f y (x ∷ xs) (inl e) = (x, inl refl, e)
map-in f y (x ∷ xs) (inr h) = let r = map-in f y xs h in (r.0, inr r.1, r.2)

-- ── zeros ──

pub zeros-at : (n i : ℕ) → get_or (replicate {A = ℕ} n 0) i 0 ≡ 0
zeros-at zero i = refl
zeros-at (suc n) zero = refl
zeros-at (suc n) (suc i) = zeros-at n i

-- ── what is there or not ──

pub some_is : {A : Type 0} (a b : A) → some a ≡ some b → a ≡ b
some_is a b e = cc

pub none-some : {A : Type 0} (a : A) → none ≡ some a → ⊥
none-some a e = let z : ◌≡◌ {A = ℕ} 0 1 = cc in omega arith
