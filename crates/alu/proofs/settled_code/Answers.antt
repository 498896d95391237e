-- `settled_code` makes the definition's tests, the commonest results first. Assumes nothing.
use Rattle.std.proofs.Common.{◌≡◌, ℕ, ◌<◌, ◌≤◌, refl, arith, le-ltb, lt-ltb, ne_eqb}
use Rattle.alu.specs.Biased.{code_by}
use Rattle.alu.proofs.settled_code.Goals as goal

positive : (t : ℕ) → 4294967296 < t → t < 6442450944 → 2 ≡ code_by t
positive t a b =
    rw (le-ltb t 2147483648 (omega arith), le-ltb t 4294967296 (omega arith), ne_eqb t 4294967296 (λ e. omega arith), lt-ltb t 6442450944 b) refl

above : (t : ℕ) → 4294967296 < t → 6442450944 ≤ t → 3 ≡ code_by t
above t a b =
    rw (le-ltb t 2147483648 (omega arith), le-ltb t 4294967296 (omega arith), ne_eqb t 4294967296 (λ e. omega arith), le-ltb t 6442450944 b) refl

zero : (t : ℕ) → t ≡ 4294967296 → 0 ≡ code_by t
zero t e = rw e refl

below : (t : ℕ) → t < 2147483648 → 3 ≡ code_by t
below t a = rw (lt-ltb t 2147483648 a) refl

negative : (t : ℕ) → t ≤ 4294967296 → (t ≡ 4294967296 → ⊥) → 2147483648 ≤ t → 1 ≡ code_by t
negative t a n b = rw (le-ltb t 2147483648 b, lt-ltb t 4294967296 (omega arith)) refl

pub returns-then-t-lt6442450944 : goal.returns-then-t-lt6442450944
returns-then-t-lt6442450944 c =
    positive _ c.if-t-gt4294967296.true c.if-t-lt6442450944.true

pub returns-then-t-gt4294967296 : goal.returns-then-t-gt4294967296
returns-then-t-gt4294967296 c =
    above _ c.if-t-gt4294967296.true c.if-t-lt6442450944.false

pub returns-then-t-eq4294967296 : goal.returns-then-t-eq4294967296
returns-then-t-eq4294967296 c =
    zero _ c.if-t-eq4294967296.true

pub returns-then-t-ge2147483648 : goal.returns-then-t-ge2147483648
returns-then-t-ge2147483648 c =
    negative _ c.if-t-gt4294967296.false c.if-t-eq4294967296.false c.if-t-ge2147483648.true

pub returns : goal.returns
returns c =
    below _ c.if-t-ge2147483648.false
