-- Elements have 4, 2 or 1 bytes; what holds of all sizes is shown once, over the width. Ranges of numbers that are read as signed, as plain comparisons.
use mathlib.Core.Path.{◌≡◌, refl, sym, ◌∙◌}
use mathlib.Core.Logic.{◌⊎◌, inl, inr}
use mathlib.Core.Bool.{Bool, true, false, ◌&&◌, ◌||◌, not}
use Prim.Native.Nat.{ℕ, ◌+◌, ◌*◌, ◌%◌, ◌<◌, ◌≤◌}
use native.Mathlib.Omega.{arith}
use lib.Dec.{eqb, leb, leb-zero}
use borrow.Author.Tests.{eqb-true, leb-true, leb-false, lt-leb}
use Rattle.base.proofs.Tests.{cases, both}
use Rattle.grammar.specs.Tree.{Width, full, short, byte}
use Rattle.static_rules.specs.Meaning.{Cell, element_size}
use Rattle.static_rules.specs.Rules.{negative, in_range, inside, fits_width}

pub size-cases : (w : Width) → (element_size w ≡ 4) ⊎ ((element_size w ≡ 2) ⊎ (element_size w ≡ 1))
size-cases full = inl refl
size-cases short = inr (inl refl)
size-cases (byte c) = inr (inr refl)

pub size-positive : (w : Width) → 0 < element_size w
size-positive full = omega arith
size-positive short = omega arith
size-positive (byte c) = omega arith

-- "is a multiple of the element size, and its element lies inside the array"
pub inside_is : (c : Cell) (v : ℕ) → inside c v ≡ true → (v % element_size c.width ≡ 0) × (v + element_size c.width ≤ element_size c.width * c.elements)
inside_is c v h =
    let p = both (eqb (v % element_size c.width) 0) (leb (v + element_size c.width) (element_size c.width * c.elements)) (both (not (negative v)) _ h).1 in
    (eqb-true _ _ p.0, leb-true _ _ p.1)

-- ── numbers read as signed ──

pub in-range : (low high v : ℕ) → in_range low high v ≡ true → (low ≤ v) × (v ≤ high)
in-range low high v h = let p = both (leb low v) (leb v high) (both (not (negative v)) _ h).1 in (leb-true _ _ p.0, leb-true _ _ p.1)

-- what is at most a number that is not negative is not negative
pub range-is : (low high v : ℕ) → high < 2147483648 → in_range low high v ≡ (leb low v && leb v high)
range-is low high v l =
    cases (leb v high) (λ e. let k = leb-true v high e in rw (lt-leb 2147483648 v (omega arith))) (λ e. rw e (never (not (negative v)) (leb low v)))
  where
    never : (a b : Bool) → (a && (b && false)) ≡ (b && false)
    never true b = refl
    never false true = refl
    never false false = refl

pub from_zero : (high v : ℕ) → high < 2147483648 → in_range 0 high v ≡ leb v high
from_zero high v l = range-is 0 high v l ∙ rw (leb-zero v)

-- a value for a short cell, as a plain comparison
pub short-is : (v : ℕ) → fits_width short v ≡ (leb v 65535 || leb 4294934528 v)
short-is v =
    cases (leb 2147483648 v)
    (λ e. let k = leb-true 2147483648 v e in rw (e, lt-leb v 65535 (omega arith)))
    (λ e. let k = leb-false 2147483648 v e in rw (e, lt-leb 4294934528 v (omega arith)) (sym (or-false (leb v 65535))))
  where
    or-false : (b : Bool) → (b || false) ≡ b
    or-false true = refl
    or-false false = refl
