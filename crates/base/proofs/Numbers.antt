-- Numbers in digits to any base, and cells of any size: bounds, parts, that digits are told by their number, what a cell reads after a store, and that a
-- store leaves every other byte. Each law is once over the base or the size. Assumes nothing.
use Prim.Native.Nat.{ℕ, zero, suc, ◌+◌, ◌-◌, ◌*◌, ◌/◌, ◌%◌, ◌^◌, ◌≤◌, ◌<◌, min}
use mathlib.Core.Path.{◌≡◌, refl, sym, ap, ap₂, ◌∙◌}
use mathlib.Core.Logic.{◌⊎◌}
use mathlib.Core.List.{List, [], ◌∷◌, ◌++◌, map}
use native.Mathlib.Omega.{arith}
use native.Mathlib.Decide.{dec_le}
use native.Mathlib.Numerals.{add-one}
use native.Mathlib.Nat.{mul-zero, mul-suc, suc-mul, min-eq_left, min-eq_right, pow-zero, pow-suc, pow-succ', pow-le-pow_right, one-le-pow, mul_assoc, add-mul, mod-eq_of_lt, lt_of_lt_of_le, mul-le-mul_right}
use lib.Arith.{digits_lt, mod-mul}
use lib.Dec.{lit<}
use lib.ListN.{length, take, drop, get_or, set, length-append, drop_of_length-le}
use lib.Seq.{take-suc, drop-cons, length-sets}
use Rattle.base.specs.Lists.{All}
use Rattle.base.specs.Numbers.{number_from, value_of, bytes_of, value_at, stored}
use Rattle.base.proofs.Lists.{all_both}
use Rattle.base.proofs.Parts.{part-sets, part-elsewhere, sets_last}

pub one_less : (n : ℕ) → suc n - 1 ≡ n
one_less n = omega arith

-- quotient and remainder are told by the number
pub parts-told : (P a b u v : ℕ) → u < P → v < P → a * P + u ≡ b * P + v → (a ≡ b) × (u ≡ v)
parts-told P a b u v hu hv e = go (dec_le (suc a) b) (dec_le (suc b) a)
  where
    go : Dec (a < b) → Dec (b < a) → (a ≡ b) × (u ≡ v)
    go (yes l) d = absurd (omega (arith, mul-le-mul_right P l, suc-mul a P))
    go (no n) (yes l) = absurd (omega (arith, mul-le-mul_right P l, suc-mul b P))
    go (no n) (no m) =
        let q : a ≡ b = omega arith in
        let r : a * P ≡ b * P = ap (λ (k : ℕ). k * P) q in
        (q, omega arith)

-- a digit more after a number that is cut off
pub min-on : (C base a d : ℕ) → min C (min C a * base + d) ≡ min C (a * base + d)
min-on C zero a d = rw (mul-zero (min C a), mul-zero a)
min-on C (suc k) a d = go (dec_le a C)
  where
    go : Dec (a ≤ C) → min C (min C a * suc k + d) ≡ min C (a * suc k + d)
    go (yes h) = rw (min-eq_right h)
    go (no h) =
        let l : C ≤ a = omega arith in
        rw (min-eq_left l, mul-suc C k, mul-suc a k) (omega arith)

module _ (digit : ℕ → ℕ) (base : ℕ) where
  pub number_append : (acc : ℕ) (xs ys : List ℕ) → number_from digit base acc (xs ++ ys) ≡ number_from digit base (number_from digit base acc xs) ys
  unfolding number_from
  number_append acc [] ys = refl
  number_append acc (x ∷ xs) ys = number_append (acc * base + digit x) xs ys

  -- what stands before the digits, apart
  pub number-split : (acc : ℕ) (xs : List ℕ) → number_from digit base acc xs ≡ acc * base ^ length xs + number_from digit base 0 xs
  unfolding number_from
  number-split acc [] = rw (pow-zero base) (omega arith)
  number-split acc (x ∷ xs) =
      let P = base ^ length xs in
      let e₁ = number-split (acc * base + digit x) xs in
      let e₂ = number-split (0 * base + digit x) xs in
      let e₃ : acc * base ^ suc (length xs) ≡ acc * base * P = rw (pow-succ' base (length xs)) (sym (mul_assoc acc base P)) in
      omega (arith, add-mul (acc * base) (digit x) P, add-mul (0 * base) (digit x) P)

  -- one digit more in a part that is read
  pub number_more : (s : List ℕ) (i : ℕ) → i < length s → number_from digit base 0 (take (i + 1) s) ≡ number_from digit base 0 (take i s) * base + digit (get_or s i 0)
  unfolding number_from
  number_more s i h = rw (add-one i, take-suc s i 0 h) (number_append 0 (take i s) (get_or s i 0 ∷ []))

  pub number-below : (acc : ℕ) (xs : List ℕ) → All (λ x. digit x < base) xs → number_from digit base acc xs < (acc + 1) * base ^ length xs
  unfolding number_from
  number-below acc [] a = rw (pow-zero base) (omega arith)
  number-below acc (x ∷ xs) a =
      let d : digit x < base = a.0 in
      let l : acc * base + digit x + 1 ≤ (acc + 1) * base = omega (arith, suc-mul acc base) in
      rw (pow-succ' base (length xs), ← mul_assoc (acc + 1) base (base ^ length xs))
      (lt_of_lt_of_le (number-below (acc * base + digit x) xs a.1) (mul-le-mul_right (base ^ length xs) l))

  pub number_lt : (xs : List ℕ) → All (λ x. digit x < base) xs → number_from digit base 0 xs < base ^ length xs
  number_lt xs a = omega (arith, number-below 0 xs a)

  -- as many digits with one number are the same digits
  pub digits-told : (xs ys : List ℕ) → All (λ x. digit x < base) xs → All (λ x. digit x < base) ys → length xs ≡ length ys
      → number_from digit base 0 xs ≡ number_from digit base 0 ys → map digit xs ≡ map digit ys
  unfolding number_from
  digits-told [] [] a b l e = refl
  digits-told [] (y ∷ ys) a b l e = absurd (omega arith)
  digits-told (x ∷ xs) [] a b l e = absurd (omega arith)
  digits-told (x ∷ xs) (y ∷ ys) a b l e =
      let k : length xs ≡ length ys = omega arith in
      let P = base ^ length xs in
      let hx : number_from digit base 0 xs < P = number_lt xs a.1 in
      let hy : number_from digit base 0 ys < P = rw k (number_lt ys b.1) in
      let ey : digit y * base ^ length ys ≡ digit y * P = rw k in
      let d = parts-told P (digit x) (digit y) _ _ hx hy (omega (arith, e, number-split (0 * base + digit x) xs, number-split (0 * base + digit y) ys)) in
      ap₂ (λ (c : ℕ) (l : List ℕ). c ∷ l) d.0 (digits-told xs ys a.1 b.1 k d.1)

  -- a loop over the digits
  pub number-turn : (v : ℕ) (s : List ℕ) (i : ℕ) {x : ℕ} → i < length s → number_from digit base v (drop i s) ≡ x → number_from digit base (v * base + digit (get_or s i 0)) (drop (i + 1) s) ≡ x
  unfolding number_from
  number-turn v s i h e = rw (add-one i) (rw (drop-cons s i 0 h) at e)

  pub number-end : (v : ℕ) (s : List ℕ) (i : ℕ) {x : ℕ} → length s ≤ i → number_from digit base v (drop i s) ≡ x → v ≡ x
  unfolding number_from
  number-end v s i h e = rw (drop_of_length-le s h) at e

  -- a number that is cut off on the way is the number cut off
  module _ (C : ℕ) where
    pub capped : (a : ℕ) (xs : List ℕ) → min C (number_from digit base (min C a) xs) ≡ min C (number_from digit base a xs)
    unfolding number_from
    capped a [] = omega arith
    capped a (x ∷ xs) =
        sym (capped (min C a * base + digit x) xs)
        ∙ ap (λ (n : ℕ). min C (number_from digit base n xs)) (min-on C base a (digit x))
        ∙ capped (a * base + digit x) xs

-- how many bytes, and each of them a byte
pub length-bytes_of : (n v : ℕ) → length (bytes_of n v) ≡ n
unfolding bytes_of
length-bytes_of zero v = refl
length-bytes_of (suc n) v = simp (length-append, length-bytes_of n (v / 256)) (omega arith)

pub bytes_of-below : (n v : ℕ) → All (λ b. b < 256) (bytes_of n v)
unfolding bytes_of
bytes_of-below zero v = tt
bytes_of-below (suc n) v = all_both (λ b. b < 256) (bytes_of n (v / 256)) (v % 256 ∷ []) (bytes_of-below n (v / 256)) (omega arith, tt)

pub value_of-lt : (bs : List ℕ) → All (λ b. b < 256) bs → value_of bs < 256 ^ length bs
value_of-lt bs a = number_lt (λ b. b) 256 bs a

pub value_of-last : (bs : List ℕ) (b : ℕ) → value_of (bs ++ (b ∷ [])) ≡ value_of bs * 256 + b
unfolding number_from
value_of-last bs b = number_append (λ b. b) 256 0 bs (b ∷ [])

-- the low bytes of a number are the number's low part, and the bytes of a value are the bytes
pub value_of-bytes_of : (n v : ℕ) → value_of (bytes_of n v) ≡ v % 256 ^ n
unfolding bytes_of number_from
value_of-bytes_of zero v = omega arith
value_of-bytes_of (suc n) v =
    value_of-last (bytes_of n (v / 256)) (v % 256)
    ∙ rw (value_of-bytes_of n (v / 256), pow-suc 256 n, mod-mul v {m = 256 ^ n} {c = 256} (one-le-pow n 256 (lit< tt)) (lit< tt))

pub value_of-fits : (n v : ℕ) → v < 256 ^ n → value_of (bytes_of n v) ≡ v
value_of-fits n v h = value_of-bytes_of n v ∙ mod-eq_of_lt h

map-id : (xs : List ℕ) → map (λ b. b) xs ≡ xs
map-id [] = refl
map-id (x ∷ xs) = ap (λ (l : List ℕ). x ∷ l) (map-id xs)

pub bytes_of-value_of : (bs : List ℕ) → All (λ b. b < 256) bs → bytes_of (length bs) (value_of bs) ≡ bs
bytes_of-value_of bs a =
    let n = length-bytes_of (length bs) (value_of bs) in
    let e = value_of-fits (length bs) (value_of bs) (value_of-lt bs a) in
    sym (map-id (bytes_of (length bs) (value_of bs))) ∙ digits-told (λ b. b) 256 (bytes_of (length bs) (value_of bs)) bs (bytes_of-below (length bs) (value_of bs)) a n e ∙ map-id bs

-- a cell reads as what was stored there, other cells and bytes as before
pub length-stored : (s : List ℕ) (at n v : ℕ) → length (stored s at n v) ≡ length s
length-stored s at n v = length-sets s at (bytes_of n v)

pub value_at-stored : (s : List ℕ) (at n v : ℕ) → at + n ≤ length s → value_at (stored s at n v) at n ≡ v % 256 ^ n
value_at-stored s at n v h =
    let l = length-bytes_of n v in
    ap value_of (rw l at (part-sets s at (bytes_of n v) 0 (rw l h))) ∙ value_of-bytes_of n v

pub value_at-elsewhere : (s : List ℕ) (at n v other m : ℕ) → (other + m ≤ at) ⊎ (at + n ≤ other) → value_at (stored s at n v) other m ≡ value_at s other m
value_at-elsewhere s at n v other m h = ap value_of (part-elsewhere s at (bytes_of n v) other m 0 (rw (length-bytes_of n v) h))

-- the turns of the loops of `load` and `store`, as their invariants have them
pub load_more : (s : List ℕ) (i v b : ℕ) → i < length s → b ≡ get_or s i 0 → v ≡ value_of (take i s) → v * 256 + b ≡ value_of (take (i + 1) s)
load_more s i v b h e q = rw (q, e) (sym (number_more (λ b. b) 256 s i h))

pub store-turn : (s : List ℕ) (at left v : ℕ) {x : List ℕ} → 0 < left → stored s at left v ≡ x → stored (set s (at + (left - 1)) (v % 256)) at (left - 1) (v / 256) ≡ x
unfolding bytes_of
store-turn s at zero v h q = absurd (omega arith)
store-turn s at (suc n) v h q =
    let w : suc n - 1 ≡ n = omega arith in
    let e = sets_last s at (bytes_of n (v / 256)) (v % 256) in
    rw w (sym (rw (length-bytes_of n (v / 256)) at e) ∙ q)

pub store-end : (s : List ℕ) (at left v : ℕ) {x : List ℕ} → left ≤ 0 → stored s at left v ≡ x → s ≡ x
unfolding bytes_of
store-end s at zero v h q = q
store-end s at (suc n) v h q = absurd (omega arith)

-- numbers of a bounded number of bytes
pub byte-on : {k j v b : ℕ} → v < 256 ^ k → b < 256 → j ≡ suc k → v * 256 + b < 256 ^ j
byte-on {k} hv hb e = rw (e, pow-suc 256 k) (digits_lt hv hb)

pub some-room : (k : ℕ) → 0 < 256 ^ k
some-room k = one-le-pow k 256 (lit< tt)

pub fewer_bytes : (n : ℕ) {k v : ℕ} → v < 256 ^ k → k ≤ n → v < 256 ^ n
fewer_bytes n hv h = lt_of_lt_of_le hv (pow-le-pow_right (lit< tt) h)
