-- The if-then-else of definitions: `choose t a b`, also written `whether t then a else b`.
use Rattle.std.specs.Prelude.{Bool, true, false}

infixr 20 whether◌then◌else◌
-- Both answers are computed before the choice is made: a definition's own recursive call stands under `elim`, not here.
abbrev pub choose {ℓ} : {A : Type ℓ} → Bool → A → A → A
choose true a b = a
choose false a b = b

abbrev pub whether◌then◌else◌ {ℓ} : {A : Type ℓ} → Bool → A → A → A
whether◌then◌else◌ t a b = choose t a b
