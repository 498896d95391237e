-- Products of signed readings, from their distances from zero. Assumes nothing.
use Rattle.std.proofs.Common.{◌≡◌, ℕ, zero, suc, ◌+◌, ◌-◌, ◌*◌, ◌%◌, ◌^◌, ◌<◌, ◌≤◌, ℤ, pos, negsuc, ◌*ℤ◌, neg_ℤ, refl, ◌∙◌, mul-le-mul, arith, w64, Fits}
use Rattle.alu.specs.Word.{signed, low_bits, distance_of, product, half_product}
use Rattle.alu.proofs.Signed.{low, high}

pub near : {a : ℕ} → a < 2 ^ 31 → a ≡ distance_of a
near {a} h = rw (low a h)

pub far : {a : ℕ} → 2 ^ 31 ≤ a → a < 2 ^ 32 → 2 ^ 32 - a ≡ distance_of a
far {a} h f = rw (high a h) (let e : 2 ^ 32 - a ≡ suc (2 ^ 32 - suc a) = omega arith in e)

pub negated-zero : {p : ℕ} → p ≡ 0 → 0 ≡ low_bits 64 (neg_ℤ (pos p))
negated-zero e = rw e

pub negated-more : (p : ℕ) → (p ≡ 0 → ⊥) → p < 2 ^ 64 → 18446744073709551615 - p + 1 ≡ low_bits 64 (neg_ℤ (pos p))
negated-more zero h f = absurd (h refl)
negated-more (suc p) h f = let e : 18446744073709551615 - suc p + 1 ≡ 2 ^ 64 - suc (p % 2 ^ 64) = omega arith in e

pub product-fits : {p q : ℕ} → p ≤ 2 ^ 31 → q ≤ 2 ^ 31 → Fits w64 (p * q)
product-fits {p} {q} hp hq = let h : p * q ≤ 2 ^ 31 * 2 ^ 31 = mul-le-mul hp hq in record { fits = omega arith }

whole : {p q : ℕ} → p ≤ 2 ^ 31 → q ≤ 2 ^ 31 → p * q ≡ p * q % 2 ^ 64
whole {p} {q} hp hq = let h : p * q ≤ 2 ^ 31 * 2 ^ 31 = mul-le-mul hp hq in omega arith

module _ {a b p q : ℕ} (ep : p ≡ distance_of a) (eq : q ≡ distance_of b) (hp : p ≤ 2 ^ 31) (hq : q ≤ 2 ^ 31) where
  pub product-low : a < 2 ^ 31 → b < 2 ^ 31 → p * q ≡ product a b
  product-low la lb = whole hp hq ∙ rw (ep, eq, low a la, low b lb)

  pub product_high : 2 ^ 31 ≤ a → 2 ^ 31 ≤ b → p * q ≡ product a b
  product_high la lb = whole hp hq ∙ rw (ep, eq, high a la, high b lb)

  pub product-mixed : {r : ℕ} → r ≡ low_bits 64 (neg_ℤ (pos (p * q))) → a < 2 ^ 31 → 2 ^ 31 ≤ b → r ≡ product a b
  product-mixed er la lb = er ∙ rw (ep, eq, low a la, high b lb)

  pub product-mixed-2 : {r : ℕ} → r ≡ low_bits 64 (neg_ℤ (pos (p * q))) → 2 ^ 31 ≤ a → b < 2 ^ 31 → r ≡ product a b
  product-mixed-2 er la lb = er ∙ rw (ep, eq, high a la, low b lb)

pub ruleset products = (product-low, product_high, product-mixed, product-mixed-2)

fewer-bits : (z : ℤ) → low_bits 64 z % 2 ^ 32 ≡ low_bits 32 z
fewer-bits (pos n) = omega arith
fewer-bits (negsuc n) = omega arith

pub half-made : (a b : ℕ) {p : ℕ} → p ≡ product a b → p % 4294967296 ≡ half_product a b
half-made a b e = rw e (fewer-bits (signed a *ℤ signed b))
