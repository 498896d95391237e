-- A loop that counts a run: `run_on`, `run-stop` and `run_end` in the form of its invariant; `run-le`, `run-pos`, `run-first`, `run-all` say what a run is like,
-- `run_take` and `run_past` how it goes over a cut, `run-within` that a narrower test's is no longer. Assumes nothing.
use Prim.Native.Nat.{ℕ, zero, suc, ◌+◌, ◌≤◌, ◌<◌, min}
use mathlib.Core.Path.{◌≡◌, refl}
use mathlib.Core.Bool.{Bool, true, false}
use mathlib.Core.List.{List, [], ◌∷◌}
use native.Mathlib.Omega.{arith}
use native.Mathlib.Numerals.{add-one}
use lib.ListN.{length, take, drop, get_or, drop_of_length-le}
use lib.Seq.{drop-cons}
use Rattle.std.specs.List.{prefix_len}
use Rattle.base.specs.Runs.{run_len}
use Rattle.base.specs.Lists.{All}

module _ (p : ℕ → Bool) (s : List ℕ) (i : ℕ) where
  pub run_on : i < length s → p (get_or s i 0) ≡ true → run_len p s ≡ i + run_len p (drop i s) → run_len p s ≡ i + 1 + run_len p (drop (i + 1) s)
  unfolding run_len
  run_on h e inv = rw (add-one i) (omega (arith, inv, step))
    where
      step : run_len p (drop i s) ≡ suc (run_len p (drop (suc i) s))
      step = rw (drop-cons s i 0, e, run_len)

  pub run-stop : i < length s → p (get_or s i 0) ≡ false → run_len p s ≡ i + run_len p (drop i s) → i ≡ run_len p s
  unfolding run_len
  run-stop h e inv = omega (arith, inv, stop)
    where
      stop : run_len p (drop i s) ≡ 0
      stop = rw (drop-cons s i 0, e, run_len)

  pub run_end : length s ≤ i → run_len p s ≡ i + run_len p (drop i s) → i ≡ run_len p s
  unfolding run_len
  run_end h inv = omega (arith, inv, stop)
    where
      stop : run_len p (drop i s) ≡ 0
      stop = rw (drop_of_length-le s h)

-- the library's word
pub prefix-run : (p : ℕ → Bool) (s : List ℕ) → prefix_len p s ≡ run_len p s
unfolding run_len
prefix-run p [] = refl
prefix-run p (x ∷ xs) = go (p x) refl (prefix-run p xs)
  where
    go : (t : Bool) → p x ≡ t → prefix_len p xs ≡ run_len p xs → prefix_len p (x ∷ xs) ≡ run_len p (x ∷ xs)
    go true e h = rw (e, run_len) (omega (arith, h))
    go false e h = rw (e, run_len)

module _ (p : ℕ → Bool) where
  pub run-le : (s : List ℕ) → run_len p s ≤ length s
  unfolding run_len
  run-le [] = omega arith
  run-le (x ∷ xs) = go (run-le xs) (p x) refl
    where
      go : run_len p xs ≤ length xs → (t : Bool) → p x ≡ t → run_len p (x ∷ xs) ≤ suc (length xs)
      go h true e = rw (e, run_len) (omega arith)
      go h false e = rw (e, run_len) (omega arith)

  pub run-pos : (s : List ℕ) → 0 < length s → p (get_or s 0 0) ≡ true → 0 < run_len p s
  unfolding run_len
  run-pos [] h e = absurd (omega arith)
  run-pos (x ∷ xs) h e = rw (e, run_len) (omega arith)

  pub run-first : (s : List ℕ) → 0 < run_len p s → p (get_or s 0 0) ≡ true
  unfolding run_len
  run-first [] h = absurd (omega arith)
  run-first (x ∷ xs) h = go (p x) refl
    where
      go : (t : Bool) → p x ≡ t → p x ≡ true
      go true e = e
      go false e = let l : 0 < 0 = rw (e, run_len) at h in absurd (omega arith)

  -- each element of the run passes the test
  pub run-all : (s : List ℕ) → All (λ x. p x ≡ true) (take (run_len p s) s)
  unfolding run_len
  run-all [] = tt
  run-all (x ∷ xs) = go (run-all xs) (p x) refl
    where
      go : All (λ y. p y ≡ true) (take (run_len p xs) xs) → (t : Bool) → p x ≡ t → All (λ y. p y ≡ true) (take (run_len p (x ∷ xs)) (x ∷ xs))
      go h true e = rw (e, run_len) (e, h)
      go h false e = rw (e, run_len) tt

  -- the run in the first n elements, and the run past n elements of it
  pub run_take : (n : ℕ) (s : List ℕ) → run_len p (take n s) ≡ min n (run_len p s)
  unfolding run_len
  run_take zero s = omega arith
  run_take (suc n) [] = omega arith
  run_take (suc n) (x ∷ xs) = go (run_take n xs) (p x) refl
    where
      go : run_len p (take n xs) ≡ min n (run_len p xs) → (t : Bool) → p x ≡ t → run_len p (x ∷ take n xs) ≡ min (suc n) (run_len p (x ∷ xs))
      go h true e = rw (e, run_len) (omega arith)
      go h false e = rw (e, run_len) (omega arith)

  pub run_past : (n : ℕ) (s : List ℕ) → n ≤ run_len p s → run_len p s ≡ n + run_len p (drop n s)
  unfolding run_len
  run_past zero s h = omega arith
  run_past (suc n) [] h = absurd (omega arith)
  run_past (suc n) (x ∷ xs) h = go (run_past n xs) (p x) refl
    where
      go : (n ≤ run_len p xs → run_len p xs ≡ n + run_len p (drop n xs)) → (t : Bool) → p x ≡ t → run_len p (x ∷ xs) ≡ suc n + run_len p (drop n xs)
      go f true e =
          let l : suc n ≤ suc (run_len p xs) = rw (e, run_len) at h in
          rw (e, run_len) (omega (arith, f (omega arith)))
      go f false e = let l : suc n ≤ 0 = rw (e, run_len) at h in absurd (omega arith)

-- of a narrower test
pub run-within : (p q : ℕ → Bool) → ((x : ℕ) → p x ≡ true → q x ≡ true) → (s : List ℕ) → run_len p s ≤ run_len q s
unfolding run_len
run-within p q f [] = omega arith
run-within p q f (x ∷ xs) = go (run-within p q f xs) (p x) refl
  where
    go : run_len p xs ≤ run_len q xs → (t : Bool) → p x ≡ t → run_len p (x ∷ xs) ≤ run_len q (x ∷ xs)
    go h true e = rw (e, f x e, run_len) (omega arith)
    go h false e = rw (e, run_len) (omega arith)
