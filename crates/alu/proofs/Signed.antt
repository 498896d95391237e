-- Signed results told by a number from 0 up: a word's biased reading is its signed one and 2 ^ 31, so that a sum or difference of two and 2 ^ 32 is a sum of
-- biased readings, and its low bits and its code are read off that (`settled-by`, `signed_by`). Assumes nothing.
use Rattle.std.proofs.Common.{◌≡◌, ℕ, zero, suc, ◌+◌, ◌-◌, ◌%◌, ◌^◌, ◌<◌, ◌≤◌, Bool, true, false, eqb, ltb, ◌⊎◌, ℤ, pos, negsuc, ◌+ℤ◌, ◌-ℤ◌, neg_ℤ, nat_abs, sym, refl, ap, ◌∙◌, ap₂, inl, inr, arith, ltb-false, ltb-true, le-ltb, lt-ltb, eq-eqb, ne_eqb, eqb-true}
use lib.IntN.{sub_ℕ, +ℤ_assoc, +ℤ_comm, +ℤ_idl, +ℤ_idr}
use borrow.Author.Tests.{eqb-false}
use Rattle.base.specs.Choose.{choose}
use Rattle.base.proofs.Tests.{cases}
use Rattle.alu.specs.Word.{signed, low_bits, sign_code, result_code, settled, added, subtracted, complemented, made_positive, made_negative, compared_code, tested}
use Rattle.alu.specs.Biased.{biased, code_by}
use Rattle.alu.specs.declared.Made.{Made}

pub made : {v v' k k' : ℕ} → v ≡ v' → k ≡ k' → ◌≡◌ {A = Made} (record { value = v; code = k }) (record { value = v'; code = k' })
made p q = λ i. record { value = p i; code = q i }

pub low : (a : ℕ) → a < 2 ^ 31 → signed a ≡ pos a
low a h = simp (lt-ltb a (2 ^ 31) h)

pub high : (a : ℕ) → 2 ^ 31 ≤ a → signed a ≡ negsuc (2 ^ 32 - suc a)
high a h = simp (le-ltb a (2 ^ 31) h)

-- ── readings ──

-- x - y as an integer, where it is not below zero
less : (x y k : ℕ) → y ≤ x → k ≡ x - y → sub_ℕ x y ≡ pos k
less x y k h e = rw (le-ltb x y h, e)

biased-reads : (a : ℕ) → a < 2 ^ 32 → signed a +ℤ pos (2 ^ 31) ≡ pos (biased a)
biased-reads a h = cases (ltb a (2 ^ 31)) below above
  where
    below : ltb a (2 ^ 31) ≡ true → signed a +ℤ pos (2 ^ 31) ≡ pos (biased a)
    below e = let l : a < 2 ^ 31 = ltb-true _ _ e in rw (low a l) (ap pos (let q : a + 2 ^ 31 ≡ biased a = omega arith in q))

    above : ltb a (2 ^ 31) ≡ false → signed a +ℤ pos (2 ^ 31) ≡ pos (biased a)
    above e =
        let l : 2 ^ 31 ≤ a = ltb-false _ _ e in
        rw (high a l) (less (2 ^ 31) (suc (2 ^ 32 - suc a)) (biased a) (omega arith) (omega arith))

-- the same of the number with the other sign
opposite : (b : ℕ) → b ≤ 2 ^ 31 → neg_ℤ (pos b) +ℤ pos (2 ^ 31) ≡ pos (2 ^ 31 - b)
opposite zero h = refl
opposite (suc b) h = less (2 ^ 31) (suc b) (2 ^ 31 - suc b) h refl

negated-reads : (b : ℕ) → b < 2 ^ 32 → neg_ℤ (signed b) +ℤ pos (2 ^ 31) ≡ pos (2 ^ 32 - biased b)
negated-reads b h = cases (ltb b (2 ^ 31)) below above
  where
    below : ltb b (2 ^ 31) ≡ true → neg_ℤ (signed b) +ℤ pos (2 ^ 31) ≡ pos (2 ^ 32 - biased b)
    below e =
        let l : b < 2 ^ 31 = ltb-true _ _ e in
        let q : 2 ^ 31 - b ≡ 2 ^ 32 - biased b = omega arith in
        rw (low b l) (opposite b (omega arith) ∙ ap pos q)

    above : ltb b (2 ^ 31) ≡ false → neg_ℤ (signed b) +ℤ pos (2 ^ 31) ≡ pos (2 ^ 32 - biased b)
    above e =
        let l : 2 ^ 31 ≤ b = ltb-false _ _ e in
        let q : suc (2 ^ 32 - suc b) + 2 ^ 31 ≡ 2 ^ 32 - biased b = omega arith in
        rw (high b l) (ap pos q)

exchange : (x y p q : ℤ) → x +ℤ y +ℤ (p +ℤ q) ≡ x +ℤ p +ℤ (y +ℤ q)
exchange x y p q =
    +ℤ_assoc x y (p +ℤ q)
    ∙ ap (λ (z : ℤ). x +ℤ z) (sym (+ℤ_assoc y p q) ∙ ap (λ (z : ℤ). z +ℤ q) (+ℤ_comm y p) ∙ +ℤ_assoc p y q)
    ∙ sym (+ℤ_assoc x p (y +ℤ q))

-- two readings, each with 2 ^ 31, make their sum with 2 ^ 32
both : (x y : ℤ) (u v : ℕ) → x +ℤ pos (2 ^ 31) ≡ pos u → y +ℤ pos (2 ^ 31) ≡ pos v → x +ℤ y +ℤ pos (2 ^ 32) ≡ pos (u + v)
both x y u v p q = exchange x y (pos (2 ^ 31)) (pos (2 ^ 31)) ∙ ap₂ (λ (s t : ℤ). s +ℤ t) p q

-- ── what they tell ──

-- a result z and 2 ^ 32 is t: the result's case, and its size by t
pub data Told (t : ℕ) : ℤ → Type 0 where
  up : {n : ℕ} → t ≡ n + 2 ^ 32 → Told t (pos n)
  down : {n : ℕ} → n < 2 ^ 32 → t ≡ 2 ^ 32 - suc n → Told t (negsuc n)

told : (z : ℤ) (t : ℕ) → z +ℤ pos (2 ^ 32) ≡ pos t → Told t z
told (pos n) t e = up (sym (ap nat_abs e))
told (negsuc n) t e = cases (ltb (2 ^ 32) (suc n)) (λ h. absurd (let k : ◌≡◌ {A = ℕ} 0 1 = cc (far h) in omega arith)) (λ h. down (ltb-false _ _ h) (sym (ap nat_abs (sym (near h) ∙ e))))
  where
    far : ltb (2 ^ 32) (suc n) ≡ true → negsuc n +ℤ pos (2 ^ 32) ≡ negsuc (suc n - suc (2 ^ 32))
    far h = rw h

    near : ltb (2 ^ 32) (suc n) ≡ false → negsuc n +ℤ pos (2 ^ 32) ≡ pos (2 ^ 32 - suc n)
    near h = rw h

pub signed_by : {t : ℕ} {z : ℤ} → Told t z → sign_code z ≡ choose (ltb t (2 ^ 32)) 1 (choose (eqb t (2 ^ 32)) 0 2)
signed_by {t} (up {n} e) =
    cases (eqb n 0)
    (λ h.
    let z = eqb-true n 0 h in
    simp (h, le-ltb t (2 ^ 32) (omega arith), eq-eqb t (2 ^ 32) (omega arith)))
    (λ h.
    let z = eqb-false n 0 h in
    simp (h, le-ltb t (2 ^ 32) (omega arith), ne_eqb t (2 ^ 32) (λ q. z (omega arith))))
signed_by {t} (down {n} l e) = rw (lt-ltb t (2 ^ 32) (omega arith))

code_by_lem : {t : ℕ} {z : ℤ} → Told t z → code_by t ≡ result_code z
code_by_lem {t} (up {n} e) =
    cases (ltb n (2 ^ 31))
    (λ h.
    let l = ltb-true n (2 ^ 31) h in
    simp (h, le-ltb t 2147483648 (omega arith), le-ltb t 4294967296 (omega arith), lt-ltb t 6442450944 (omega arith)) (ap (λ (b : Bool). choose {A = ℕ} b 0 2) zeroes))
    (λ h.
    let l = ltb-false n (2 ^ 31) h in
    simp (h, le-ltb t 2147483648 (omega arith), le-ltb t 4294967296 (omega arith), ne_eqb t 4294967296 (λ q. omega arith), le-ltb t 6442450944 (omega arith)))
  where
    zeroes : eqb t 4294967296 ≡ eqb n 0
    zeroes =
        cases (eqb n 0)
        (λ h. let z = eqb-true n 0 h in eq-eqb t 4294967296 (omega arith) ∙ sym h)
        (λ h. let z = eqb-false n 0 h in ne_eqb t 4294967296 (λ q. z (omega arith)) ∙ sym h)
code_by_lem {t} (down {n} l e) =
    cases (ltb n (2 ^ 31))
    (λ h.
    let k = ltb-true n (2 ^ 31) h in
    simp (h, le-ltb t 2147483648 (omega arith), lt-ltb t 4294967296 (omega arith)))
    (λ h.
    let k = ltb-false n (2 ^ 31) h in
    simp (h, lt-ltb t 2147483648 (omega arith)))

bits-by : {t : ℕ} {z : ℤ} → Told t z → t % 2 ^ 32 ≡ low_bits 32 z
bits-by (up e) = omega arith
bits-by (down l e) = omega arith

-- a value and a code are those of the result z
settled-by : {v k t : ℕ} (z : ℤ) → z +ℤ pos (2 ^ 32) ≡ pos t → v ≡ t % 2 ^ 32 → k ≡ code_by t → ◌≡◌ {A = Made} (record { value = v; code = k }) (settled z)
settled-by {t = t} z e p q = let s = told z t e in made (p ∙ bits-by s) (q ∙ code_by_lem s)

-- ── the functions ──

halves : (a : ℕ) → a < 2 ^ 32 → (biased a ≡ a + 2 ^ 31) ⊎ (biased a + 2 ^ 31 ≡ a)
halves a h =
    cases (ltb a (2 ^ 31)) (λ e. let l = ltb-true a (2 ^ 31) e in inl (omega arith)) (λ e. let l = ltb-false a (2 ^ 31) e in inr (omega arith))

-- biased readings make the same low bits
same_sum : (a b x y : ℕ) → (x ≡ a + 2 ^ 31) ⊎ (x + 2 ^ 31 ≡ a) → (y ≡ b + 2 ^ 31) ⊎ (y + 2 ^ 31 ≡ b) → (a + b) % 2 ^ 32 ≡ (x + y) % 2 ^ 32
same_sum a b x y (inl p) (inl q) = omega arith
same_sum a b x y (inl p) (inr q) = omega arith
same_sum a b x y (inr p) (inl q) = omega arith
same_sum a b x y (inr p) (inr q) = omega arith

same-difference : (a b v x y : ℕ) → (v + b) % 2 ^ 32 ≡ a → v < 2 ^ 32 → y < 2 ^ 32 → (x ≡ a + 2 ^ 31) ⊎ (x + 2 ^ 31 ≡ a) → (y ≡ b + 2 ^ 31) ⊎ (y + 2 ^ 31 ≡ b) → v ≡ (x + (2 ^ 32 - y)) % 2 ^ 32
same-difference a b v x y e hv hy (inl p) (inl q) = omega arith
same-difference a b v x y e hv hy (inl p) (inr q) = omega arith
same-difference a b v x y e hv hy (inr p) (inl q) = omega arith
same-difference a b v x y e hv hy (inr p) (inr q) = omega arith

module _ {a b x y : ℕ} (ha : a < 2 ^ 32) (hb : b < 2 ^ 32) (ex : x ≡ biased a) (ey : y ≡ biased b) where
  pub add-made : {v k : ℕ} → v ≡ (a + b) % 2 ^ 32 → k ≡ code_by (x + y) → ◌≡◌ {A = Made} (record { value = v; code = k }) (added a b)
  add-made ev ek =
      settled-by (signed a +ℤ signed b)
      (both (signed a) (signed b) x y (biased-reads a ha ∙ ap pos (sym ex)) (biased-reads b hb ∙ ap pos (sym ey)))
      (ev ∙ same_sum a b x y (rw ex (halves a ha)) (rw ey (halves b hb))) ek

  difference : signed a -ℤ signed b +ℤ pos (2 ^ 32) ≡ pos (x + (2 ^ 32 - y))
  difference =
      both (signed a) (neg_ℤ (signed b)) x (2 ^ 32 - y) (biased-reads a ha ∙ ap pos (sym ex))
      (negated-reads b hb ∙ ap (λ (n : ℕ). pos (2 ^ 32 - n)) (sym ey))

  pub subtract-made : {v k : ℕ} → (v + b) % 2 ^ 32 ≡ a → v < 2 ^ 32 → k ≡ code_by (4294967296 + x - y) → ◌≡◌ {A = Made} (record { value = v; code = k }) (subtracted a b)
  subtract-made ev hv ek =
      let q : 4294967296 + x - y ≡ x + (2 ^ 32 - y) = omega arith in
      settled-by (signed a -ℤ signed b) difference
      (same-difference a b _ x y ev hv (omega arith) (rw ex (halves a ha)) (rw ey (halves b hb))) (ek ∙ ap code_by q)

  by_sign : compared_code a b ≡ choose (ltb (x + (2 ^ 32 - y)) (2 ^ 32)) 1 (choose (eqb (x + (2 ^ 32 - y)) (2 ^ 32)) 0 2)
  by_sign = signed_by (told (signed a -ℤ signed b) (x + (2 ^ 32 - y)) difference)

  pub compare-less : x < y → 1 ≡ compared_code a b
  compare-less h = sym (by_sign ∙ rw (lt-ltb (x + (2 ^ 32 - y)) (2 ^ 32) (omega arith)))

  pub compare_same : x ≡ y → 0 ≡ compared_code a b
  compare_same h = sym (by_sign ∙ rw (le-ltb (x + (2 ^ 32 - y)) (2 ^ 32) (omega arith), eq-eqb (x + (2 ^ 32 - y)) (2 ^ 32) (omega arith)))

  pub compare-more : y ≤ x → (x ≡ y → ⊥) → 2 ≡ compared_code a b
  compare-more h n = sym (by_sign ∙ rw (le-ltb (x + (2 ^ 32 - y)) (2 ^ 32) (omega arith), ne_eqb (x + (2 ^ 32 - y)) (2 ^ 32) (λ q. n (omega arith))))

pub ruleset compares = (compare-less, compare_same, compare-more)

pub test-made : (b : ℕ) {k : ℕ} → k ≡ compared_code b 0 → ◌≡◌ {A = Made} (record { value = b; code = k }) (tested b)
test-made b e = made refl (e ∙ ap sign_code (+ℤ_idr (signed b)))

pub complement-made : (b : ℕ) {r : Made} → r ≡ subtracted 0 b → r ≡ complemented b
complement-made b e = e ∙ ap settled (+ℤ_idl (neg_ℤ (signed b)))

-- a number that is not below zero
pub plain_code : (n : ℕ) → code_by (4294967296 + n) ≡ result_code (pos n)
plain_code n = code_by_lem {t = 4294967296 + n} (up {n = n} (omega arith))

pub plain-made : {v k : ℕ} → v < 2 ^ 32 → k ≡ code_by (4294967296 + v) → ◌≡◌ {A = Made} (record { value = v; code = k }) (settled (pos v))
plain-made {v} h e = settled-by (pos v) (ap pos (let q : v + 2 ^ 32 ≡ 4294967296 + v = omega arith in q)) (omega arith) e

pub positive-low : {b k : ℕ} → b < 2 ^ 31 → k ≡ code_by (4294967296 + b) → ◌≡◌ {A = Made} (record { value = b; code = k }) (made_positive b)
positive-low {b} h e = rw (low b h) (plain-made (omega arith) e)

pub positive-high : {b : ℕ} {r : Made} → 2 ^ 31 ≤ b → r ≡ complemented b → r ≡ made_positive b
positive-high {b} h e = e ∙ rw (high b h)

pub negative-low : {b : ℕ} {r : Made} → b < 2 ^ 31 → r ≡ complemented b → r ≡ made_negative b
negative-low {b} h e = e ∙ rw (low b h)

pub negative-high : {b : ℕ} → 2 ^ 31 ≤ b → b < 2 ^ 32 → ◌≡◌ {A = Made} (record { value = b; code = 1 }) (made_negative b)
negative-high {b} h l =
    rw (high b h)
    (made (let q : b ≡ 2 ^ 32 - suc ((2 ^ 32 - suc b) % 2 ^ 32) = omega arith in q) (rw (lt-ltb (2 ^ 32 - suc b) (2 ^ 31) (omega arith))))

pub ruleset signs = (positive-low, positive-high, negative-low, negative-high)
