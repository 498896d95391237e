-- What a caller of `translate` may rely on: no second answer fits its contract, and no second buffer. Assumes nothing.
use mathlib.Core.Path.{◌≡◌, refl, sym, ap, ap₂, ◌∙◌}
use mathlib.Core.List.{List}
use Prim.Native.Nat.{ℕ}
use lib.ListN.{length}
use Rattle.spots.specs.declared.Spot.{Spot}
use Rattle.translation.specs.Translate.{spot_for}
use Rattle.translation.proofs.Theorems.{not-both}
use Rattle.std.specs.Prelude.{Ok, Err}
use Rattle.made.specs.Answers as A
use Rattle.translate.specs.declared.Refused.{Refused}
use Rattle.translate.specs.Answers.{Answer, Outcome, outcome, defined, stood}

-- ── the last step, part by part ──

pub stood-parts : (source : List ℕ) (r : A.Answer) (after : List ℕ)
    → outcome (stood source r) after ≡ record { number = A.number_of r; spot = spot_for source (A.number_of r) (A.place_of r); length = A.length_of r; buffer = after }
stood-parts source (Ok n) after = refl
stood-parts source (Err e) after = refl

-- ── no second answer ──

pub one_answer : (source before : List ℕ) (r q : Answer) (after other : List ℕ) → outcome r after ≡ defined source before → outcome q other ≡ defined source before
    → (r ≡ q) × (after ≡ other)
one_answer source before r q after other e f = (go r q e f, ap (λ (o : Outcome). o.buffer) (e ∙ sym f))
  where
    -- an acceptance of nothing and a refusal with the number 0 would say the same: the definition has neither
    neither : (n : ℕ) (p : Refused) (a b : List ℕ) → outcome (Ok n) a ≡ defined source before → outcome (Err p) b ≡ defined source before → ⊥
    neither n p a b x y = not-both source (length before) (sym (ap (λ (o : Outcome). o.number) x)) (sym (ap (λ (o : Outcome). o.length) y))

    go : (r q : Answer) → outcome r after ≡ defined source before → outcome q other ≡ defined source before → r ≡ q
    go (Ok n) (Ok m) a b = ap Ok (ap (λ (o : Outcome). o.length) (a ∙ sym b))
    go (Ok n) (Err p) a b = absurd (neither n p after other a b)
    go (Err p) (Ok n) a b = absurd (neither n p other after b a)
    go (Err p) (Err t) a b = ap₂ (λ (n : ℕ) (s : Spot). Err (record { number = n; spot = s })) (ap (λ (o : Outcome). o.number) (a ∙ sym b)) (ap (λ (o : Outcome). o.spot) (a ∙ sym b))
