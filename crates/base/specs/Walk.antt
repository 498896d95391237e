-- Along a list from its front: `walk` stops with an answer or passes over some elements; `fold` takes each element into a state.
use Rattle.std.specs.Prelude.{ℕ, zero, suc, pred, List, [], ◌∷◌}

pub data Step (A : Type 0) : Type 0 where
  stop : A → Step A
  pass : ℕ → Step A

-- f at a place, on the list from there; k elements are still to be passed over
unfoldable pub walk : {A : Type 0} → (ℕ → List ℕ → Step A) → (ℕ → A) → ℕ → ℕ → List ℕ → A
walk f end at k [] = end at
walk f end at (suc k) (x ∷ xs) = walk f end (suc at) k xs
walk f end at zero (x ∷ xs) = elim (f at (x ∷ xs)) [ stop a ↦ a | pass n ↦ walk f end (suc at) (pred n) xs ]

unfoldable pub fold : {A S : Type 0} → (S → A → S) → S → List A → S
fold f s [] = s
fold f s (x ∷ xs) = fold f (f s x) xs
