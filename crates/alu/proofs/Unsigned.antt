-- Unsigned sums: a carry shows as a sum below an operand, a borrow as a smaller first operand. Assumes nothing.
use Rattle.std.proofs.Common.{◌≡◌, ℕ, ◌+◌, ◌-◌, ◌%◌, ◌^◌, ◌<◌, ◌≤◌, ap, ◌∙◌, arith, le-ltb, lt-ltb}
use Rattle.alu.specs.Word.{zero_code, carried, added_logical, subtracted_logical}
use Rattle.alu.specs.declared.Made.{Made}
use Rattle.alu.proofs.Signed.{made}

module _ (n : ℕ) {v k : ℕ} (e : v ≡ n % 2 ^ 32) (z : k ≡ zero_code v) where
  with-carry : 2 ^ 32 ≤ n → ◌≡◌ {A = Made} (record { value = v; code = k + 2 }) (carried n)
  with-carry h = made e (rw (le-ltb n (2 ^ 32) h) (ap (λ (m : ℕ). m + 2) (z ∙ ap zero_code e)))

  without-carry : n < 2 ^ 32 → ◌≡◌ {A = Made} (record { value = v; code = k }) (carried n)
  without-carry h = made e (rw (lt-ltb n (2 ^ 32) h) (z ∙ ap zero_code e ∙ (let q : zero_code (n % 2 ^ 32) ≡ zero_code (n % 2 ^ 32) + 0 = omega arith in q)))

module _ {a b v k : ℕ} (ha : a < 2 ^ 32) (hb : b < 2 ^ 32) (z : k ≡ zero_code v) where
  pub add-carry : v ≡ (a + b) % 2 ^ 32 → v < a → ◌≡◌ {A = Made} (record { value = v; code = k + 2 }) (added_logical a b)
  add-carry e h = with-carry (a + b) e z (omega arith)

  pub add-plain : v ≡ (a + b) % 2 ^ 32 → a ≤ v → ◌≡◌ {A = Made} (record { value = v; code = k }) (added_logical a b)
  add-plain e h = without-carry (a + b) e z (omega arith)

  pub subtract-borrow : (v + b) % 2 ^ 32 ≡ a → v < 2 ^ 32 → a < b → ◌≡◌ {A = Made} (record { value = v; code = k }) (subtracted_logical a b)
  subtract-borrow e hv h = without-carry (a + (2 ^ 32 - b)) (omega arith) z (omega arith)

  pub subtract-plain : (v + b) % 2 ^ 32 ≡ a → v < 2 ^ 32 → b ≤ a → ◌≡◌ {A = Made} (record { value = v; code = k + 2 }) (subtracted_logical a b)
  subtract-plain e hv h = with-carry (a + (2 ^ 32 - b)) (omega arith) z (omega arith)

pub ruleset carries = (add-carry, add-plain, subtract-borrow, subtract-plain)
