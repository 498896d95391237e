-- Operands and pages: an aligned operand that begins in storage ends in it, a page past the last holds nothing. Assumes nothing.
use Prim.Native.Nat.{ℕ, suc, ◌+◌, ◌*◌, ◌/◌, ◌%◌, ◌^◌, ◌<◌, ◌≤◌}
use mathlib.Core.Path.{◌≡◌, refl, sym, ap, subst}
use mathlib.Core.Bool.{Bool, true, false, ◌&&◌}
use mathlib.Core.List.{List}
use native.Mathlib.Omega.{arith}
use native.Mathlib.Nat.{div-add-mod', mul-le-mul_right, suc-mul}
use native.Mathlib.Decide.{dec_le}
use lib.Dec.{leb, eqb}
use borrow.Author.Tests.{lt-leb, eq-eqb}
use Rattle.machine.specs.Step.{Turn, stepped}

-- an answer beside storage that stays
pub kept : {q a : Turn} {s : List ℕ} → q ≡ a → stepped q s ≡ stepped a s
kept {s = s} e = ap (λ (x : Turn). stepped x s) e

-- of two multiples of n the smaller is at least n smaller
pub whole : (a b n : ℕ) → a % n ≡ 0 → b % n ≡ 0 → a < b → a + n ≤ b
whole a b n ea eb h = go (dec_le (suc (a / n)) (b / n))
  where
    da : a / n * n + a % n ≡ a
    da = div-add-mod' a n

    db : b / n * n + b % n ≡ b
    db = div-add-mod' b n

    go : Dec (a / n < b / n) → a + n ≤ b
    go (yes l) = omega (arith, mul-le-mul_right n l, suc-mul (a / n) n, da, db, ea, eb)
    go (no l) = let k : b / n ≤ a / n = omega arith in absurd (omega (arith, mul-le-mul_right n k, da, db, ea, eb))

pub no_bytes : (o n : ℕ) → 0 < n → false ≡ leb (o + n) 0
no_bytes o n h = sym (lt-leb (o + n) 0 (omega arith))

pub no_room : (b : Bool) (o n : ℕ) → 0 < n → false ≡ (b && leb (o + n) 0)
no_room true o n h = no_bytes o n h
no_room false o n h = refl

-- one byte is aligned wherever it is
pub byte-aligned : (a : ℕ) → eqb (a % 1) 0 ≡ true
byte-aligned a = eq-eqb (a % 1) 0 (omega arith)

pub half-word : {v n : ℕ} → v < 256 ^ n → n ≡ 2 → v < 65536
half-word {v} h e = subst (λ (k : ℕ). v < 256 ^ k) e h
