-- What is in a list, and what holds of all that is in it: `x ∈ l`, `s ⊆ t`, `All P l`, and the test `member x l`.
use Rattle.std.specs.Prelude.{ℕ, ◌≡◌, ◌⊎◌, Bool, false, ◌||◌, List, [], ◌∷◌, eqb}

infix 30 ◌∈◌
infix 30 ◌⊆◌
abbrev pub ◌∈◌ : {A : Type 0} → A → List A → Type 0
◌∈◌ x [] = ⊥
◌∈◌ x (y ∷ ys) = (x ≡ y) ⊎ (x ∈ ys)

abbrev pub ◌⊆◌ : {A : Type 0} → List A → List A → Type 0
◌⊆◌ {A} s t = (x : A) → x ∈ s → x ∈ t

abbrev pub All : {A : Type 0} → (A → Type 0) → List A → Type 0
All P [] = Unit {0}
All P (x ∷ xs) = P x × All P xs

abbrev pub member : ℕ → List ℕ → Bool
member x [] = false
member x (y ∷ ys) = eqb x y || member x ys
