-- Shifts of words and of their signed readings. Assumes nothing.
use Rattle.std.proofs.Common.{◌≡◌, ℕ, zero, suc, ◌+◌, ◌-◌, ◌*◌, ◌/◌, ◌%◌, ◌^◌, ◌<◌, ◌≤◌, pos, neg_ℤ, sym, ap, ◌∙◌, subst, mul_assoc, mul-le-mul, mul-le-mul_left, zero-mul, mul-one, arith, pow_pos, pow_mono, pow-add, shl_exact, le-ltb, lt-ltb}
use native.Mathlib.Nat.{mul-mod_left, mod-le}
use lib.Pow.{shr_le}
use Rattle.alu.specs.Word.{result_code, distance_of, settled, shifted_left_logical, shifted_left, shifted_right}
use Rattle.alu.specs.Biased.{code_by}
use Rattle.alu.specs.declared.Made.{Made}
use Rattle.alu.proofs.Signed.{made, low, high, plain-made, plain_code}
use Rattle.alu.proofs.Products.{near}

pub shr-fits : (a n : ℕ) → a < 2 ^ 32 → a / 2 ^ n < 2 ^ 32
shr-fits a n h = let l : a / 2 ^ n ≤ a = shr_le a n in omega arith

exact : (a n : ℕ) → a < 2 ^ 32 → n < 32 → a * 2 ^ n % 2 ^ 64 ≡ a * 2 ^ n
exact a n ha hn = shl_exact 32 n 64 ha (omega arith)

grown : (a n : ℕ) → a ≤ a * 2 ^ n
grown a n = subst (λ (x : ℕ). x ≤ a * 2 ^ n) (mul-one a) (mul-le-mul_left a (pow_pos n))

-- nothing is left of k low bits that are shifted by k or more
gone : (k a n : ℕ) → k ≤ n → a * 2 ^ n % 2 ^ k ≡ 0
gone k a n h =
    let e : n ≡ n - k + k = omega arith in
    rw (ap (λ (j : ℕ). a * 2 ^ j % 2 ^ k) e, pow-add 2 (n - k) k, ← mul_assoc a (2 ^ (n - k)) (2 ^ k)) (mul-mod_left (a * 2 ^ (n - k)) (2 ^ k))

-- the code of a number below zero, by its distance
code-far : (p : ℕ) → 2 ^ 31 < p → result_code (neg_ℤ (pos p)) ≡ 3
code-far zero h = absurd (omega arith)
code-far (suc p) h = rw (le-ltb p (2 ^ 31) (omega arith))

code-near : (p : ℕ) → 0 < p → p ≤ 2 ^ 31 → result_code (neg_ℤ (pos p)) ≡ 1
code-near zero h f = absurd (omega arith)
code-near (suc p) h f = rw (lt-ltb p (2 ^ 31) (omega arith))

-- ── left ──

pub shl-room : (d n : ℕ) → d ≤ 2 ^ 31 → n < 32 → 4294967296 + d * 2 ^ n % 2 ^ 64 < 2 ^ 64
shl-room d n hd hn =
    let h : d * 2 ^ n ≤ 2 ^ 31 * 2 ^ 31 = mul-le-mul hd (pow_mono {j = 31} (omega arith)) in
    let m : d * 2 ^ n % 2 ^ 64 ≤ d * 2 ^ n = mod-le (d * 2 ^ n) (2 ^ 64) in
    omega arith

pub left-gone : (a n : ℕ) → 32 ≤ n → 0 ≡ shifted_left_logical a n
left-gone a n h = sym (gone 32 a n h)

pub left-stays : (a n : ℕ) → a < 2 ^ 32 → n < 32 → a * 2 ^ n % 2 ^ 64 % 4294967296 ≡ shifted_left_logical a n
left-stays a n ha hn = rw (exact a n ha hn)

module _ {a n d : ℕ} (ha : a < 2 ^ 32) (hn : n < 32) (ed : d ≡ distance_of a) where
  value_low : a < 2 ^ 31 → a * 2 ^ n % 2 ^ 64 % 2 ^ 31 ≡ a / 2 ^ 31 * 2 ^ 31 + a * 2 ^ n % 2 ^ 31
  value_low la = rw (exact a n ha hn) (omega arith)

  value-high : 2 ^ 31 ≤ a → 2 ^ 31 + a * 2 ^ n % 2 ^ 64 % 2 ^ 31 ≡ a / 2 ^ 31 * 2 ^ 31 + a * 2 ^ n % 2 ^ 31
  value-high la = rw (exact a n ha hn) (omega arith)

  whole-low : a < 2 ^ 31 → d * 2 ^ n % 2 ^ 64 ≡ a * 2 ^ n
  whole-low la = rw (ed, ← near la) (exact a n ha hn)

  whole-high : 2 ^ 31 ≤ a → d * 2 ^ n % 2 ^ 64 ≡ suc (2 ^ 32 - suc a) * 2 ^ n
  whole-high la = rw (ed, high a la) (exact (suc (2 ^ 32 - suc a)) n (omega arith) hn)

  pub left-low : {k : ℕ} → k ≡ code_by (4294967296 + d * 2 ^ n % 2 ^ 64) → a < 2 ^ 31 → ◌≡◌ {A = Made} (record { value = a * 2 ^ n % 2 ^ 64 % 2 ^ 31; code = k }) (shifted_left a n)
  unfolding shifted_left
  left-low ek la =
      made (value_low la) (ek ∙ ap (λ (w : ℕ). code_by (4294967296 + w)) (whole-low la) ∙ plain_code (a * 2 ^ n) ∙ rw (low a la))

  pub left_over : 2 ^ 31 ≤ a → 2 ^ 31 < d * 2 ^ n % 2 ^ 64 → ◌≡◌ {A = Made} (record { value = 2 ^ 31 + a * 2 ^ n % 2 ^ 64 % 2 ^ 31; code = 3 }) (shifted_left a n)
  unfolding shifted_left
  left_over la h =
      made (value-high la)
      (rw (high a la) (sym (code-far (suc (2 ^ 32 - suc a) * 2 ^ n) (subst (λ (x : ℕ). 2 ^ 31 < x) (whole-high la) h))))

  pub left-fits : 2 ^ 31 ≤ a → d * 2 ^ n % 2 ^ 64 ≤ 2 ^ 31 → ◌≡◌ {A = Made} (record { value = 2 ^ 31 + a * 2 ^ n % 2 ^ 64 % 2 ^ 31; code = 1 }) (shifted_left a n)
  unfolding shifted_left
  left-fits la h =
      let g : suc (2 ^ 32 - suc a) ≤ suc (2 ^ 32 - suc a) * 2 ^ n = grown (suc (2 ^ 32 - suc a)) n in
      made (value-high la)
      (rw (high a la) (sym (code-near (suc (2 ^ 32 - suc a) * 2 ^ n) (omega arith) (subst (λ (x : ℕ). x ≤ 2 ^ 31) (whole-high la) h))))

-- shifts that leave nothing of the 31 bits
module _ {a n : ℕ} (ha : a < 2 ^ 32) (hn : 32 ≤ n) where
  huge : (x : ℕ) → 0 < x → 2 ^ 32 ≤ x * 2 ^ n
  huge x h =
      let p : 2 ^ 32 ≤ 2 ^ n = pow_mono hn in
      let q : 1 * 2 ^ n ≤ x * 2 ^ n = mul-le-mul h (omega arith) in
      omega arith

  empty : a * 2 ^ n % 2 ^ 31 ≡ 0
  empty = gone 31 a n (omega arith)

  pub all-zero : a ≡ 0 → ◌≡◌ {A = Made} (record { value = 0; code = 0 }) (shifted_left a n)
  unfolding shifted_left
  all-zero e = rw (e, zero-mul (2 ^ n))

  pub all-low : (a ≡ 0 → ⊥) → a < 2 ^ 31 → ◌≡◌ {A = Made} (record { value = 0; code = 3 }) (shifted_left a n)
  unfolding shifted_left
  all-low z la =
      let h : 2 ^ 32 ≤ a * 2 ^ n = huge a (omega arith) in
      made (rw empty (omega arith)) (rw (low a la, le-ltb (a * 2 ^ n) (2 ^ 31) (omega arith)))

  pub all-high : 2 ^ 31 ≤ a → ◌≡◌ {A = Made} (record { value = 2 ^ 31; code = 3 }) (shifted_left a n)
  unfolding shifted_left
  all-high la =
      let h : 2 ^ 32 ≤ suc (2 ^ 32 - suc a) * 2 ^ n = huge (suc (2 ^ 32 - suc a)) (omega arith) in
      made (rw empty (omega arith)) (rw (high a la) (sym (code-far (suc (2 ^ 32 - suc a) * 2 ^ n) (omega arith))))

pub ruleset lefts = (left-low, left_over, left-fits, all-zero, all-low, all-high)

-- ── right ──

pub right-low : (n : ℕ) {a v k : ℕ} → v ≡ a / 2 ^ n → k ≡ code_by (4294967296 + v) → a < 2 ^ 31 → ◌≡◌ {A = Made} (record { value = v; code = k }) (shifted_right a n)
unfolding shifted_right
right-low n {a} {v} e q h =
    let l : a / 2 ^ n ≤ a = shr_le a n in
    rw (low a h) (plain-made (omega arith) q ∙ ap (λ (w : ℕ). settled (pos w)) e)

pub right-high : (n : ℕ) {a x : ℕ} → x ≡ (4294967295 - a) / 2 ^ n → 2 ^ 31 ≤ a → a < 2 ^ 32 → ◌≡◌ {A = Made} (record { value = 4294967295 - x; code = 1 }) (shifted_right a n)
unfolding shifted_right
right-high n {a} {x} e h f =
    let c : 4294967295 - a ≡ 2 ^ 32 - suc a = omega arith in
    let l : (2 ^ 32 - suc a) / 2 ^ n ≤ 2 ^ 32 - suc a = shr_le (2 ^ 32 - suc a) n in
    rw (high a h)
    (made (rw (e, c) (let d : 4294967295 - (2 ^ 32 - suc a) / 2 ^ n ≡ 2 ^ 32 - suc ((2 ^ 32 - suc a) / 2 ^ n % 2 ^ 32) = omega arith in d))
    (rw (lt-ltb ((2 ^ 32 - suc a) / 2 ^ n) (2 ^ 31) (omega arith))))

pub ruleset rights = (right-low, right-high)
