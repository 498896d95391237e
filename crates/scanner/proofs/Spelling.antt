-- Bytes as digits: the classes of bytes are the digits to the bases 10, 16 and 36, a name's key is
-- never cut off, and what digits at the front make. Assumes nothing.
use Rattle.std.proofs.Common.{Ok, Err}
use Prim.Native.Nat.{ℕ, ◌+◌, ◌*◌, ◌^◌, ◌≤◌, ◌<◌, min}
use mathlib.Core.Path.{◌≡◌, refl, sym, ap, ◌∙◌}
use mathlib.Core.Bool.{Bool, true, false, and-false, beq}
use mathlib.Core.List.{List}
use native.Mathlib.Omega.{arith}
use native.Mathlib.Decide.{dec_le}
use native.Mathlib.Nat.{pow-le-pow_right}
use lib.Dec.{T, ltb, lit<}
use lib.ListN.{length, take, get_or, length-take}
use borrow.Author.Tests.{lt-leb, lt-ltb, le-ltb, ltb-true, eq-eqb, ne_eqb}
use Rattle.base.specs.Lists.{All}
use Rattle.base.specs.Runs.{run_len}
use Rattle.base.specs.Numbers.{number_from}
use Rattle.base.specs.Tables.{all_below}
use Rattle.base.proofs.Lists.{all_map, all_take}
use Rattle.base.proofs.Numbers.{min-on, number_more, number_lt}
use Rattle.base.proofs.Parts.{take_min}
use Rattle.base.proofs.Runs.{run-all}
use Rattle.base.proofs.Tables.{all-below}
use Rattle.token.specs.Text.{is_digit, is_hexadecimal, in_name, digit_of, key_of, number}
use Rattle.scanner.specs.Inner.{in_base, Digited, longer_by}
use Rattle.token.specs.Kinds as K
use Rattle.token.specs.declared.Lexeme.TheVariants.{Token}
use Rattle.token.specs.declared.Why.TheVariants.{NoToken, OutOfRange}
use Rattle.scanner.specs.declared.Spelled.{Spelled}

alike : (a b : Bool) → T (beq a b) → a ≡ b
alike true true t = refl
alike true false t = absurd t
alike false true t = absurd t
alike false false t = refl

-- a test of each byte up to `Z`; past it no byte is a digit or a capital
by_bytes : (p q : ℕ → Bool) → T (all_below 91 (λ b. beq (p b) (q b))) → ((b : ℕ) → 91 ≤ b → p b ≡ q b) → (b : ℕ) → p b ≡ q b
by_bytes p q t f b = go (dec_le 91 b)
  where
    go : Dec (91 ≤ b) → p b ≡ q b
    go (yes h) = f b h
    go (no h) = alike (p b) (q b) (all-below 91 (λ b. beq (p b) (q b)) t b (omega arith))

past-Z : (base b : ℕ) → ltb 36 base ≡ false → 91 ≤ b → in_base base b ≡ false
past-Z base b e h = simp (lt-leb b 57 (omega arith), lt-leb b 90 (omega arith), and-false, e)

-- a byte below the digits
pub low_byte : (b : ℕ) → b < 48 → 36 ≡ digit_of b
low_byte b h = simp (lt-leb 48 b h, lt-leb 65 b (omega arith))

pub decimal : in_base 10 ≡ is_digit
decimal = λ i b. by_bytes (in_base 10) is_digit tt (λ b h. past-Z 10 b refl h ∙ simp (lt-leb b 57 (omega arith), and-false)) b i

pub hexadecimal : in_base 16 ≡ is_hexadecimal
hexadecimal = λ i b. by_bytes (in_base 16) is_hexadecimal tt (λ b h. past-Z 16 b refl h ∙ simp (lt-leb b 57 (omega arith), lt-leb b 70 (omega arith), and-false)) b i

pub alphanumeric : in_base 36 ≡ in_name
alphanumeric = λ i b. by_bytes (in_base 36) in_name tt (λ b h. past-Z 36 b refl h ∙ simp (lt-leb b 57 (omega arith), lt-leb b 90 (omega arith), and-false)) b i

-- the loop of `digits`: one digit more, cut off
pub value_on : (C base : ℕ) (s : List ℕ) (i v d r : ℕ) → v ≡ min C (number_from digit_of base 0 (take i s)) → i < length s → d ≡ digit_of (get_or s i 0) → r ≡ min C (v * base + d)
    → r ≡ min C (number_from digit_of base 0 (take (i + 1) s))
value_on C base s i v d r e h q f =
    f ∙ rw (e, q, number_more digit_of base s i h) (min-on C base (number_from digit_of base 0 (take i s)) (digit_of (get_or s i 0)))

-- the bytes of a run are digits, so the number of ten of them lies below the cut
pub run-digits : (base : ℕ) (s : List ℕ) → All (λ b. digit_of b < base) (take (run_len (in_base base) s) s)
run-digits base s = all_map (λ b. in_base base b ≡ true) (λ b. digit_of b < base) (take (run_len (in_base base) s) s) (λ b e. ltb-true (digit_of b) base e) (run-all (in_base base) s)

pub key_below : (t : List ℕ) → All (λ b. digit_of b < 36) t → key_of t < 2 ^ 52
key_below t a =
    let n : length (take 10 t) ≤ 10 = omega (arith, length-take 10 t) in
    omega (arith, number_lt digit_of 36 (take 10 t) (all_take (λ b. digit_of b < 36) 10 t a), pow-le-pow_right {n = 36} (lit< tt) n)

-- the loop of `name`: one character more
pub key-on : (s : List ℕ) (i key d r : ℕ) → key ≡ key_of (take i s) → i < length s → d ≡ digit_of (get_or s i 0) → r ≡ longer_by key i d → r ≡ key_of (take (i + 1) s)
key-on s i key d r e h q f = f ∙ go (dec_le 10 i)
  where
    go : Dec (10 ≤ i) → longer_by key i d ≡ key_of (take (i + 1) s)
    go (yes l) =
        let m : min 10 i ≡ min 10 (i + 1) = omega arith in
        rw (le-ltb i 10 l) (e ∙ ap (number_from digit_of 36 0) (take_min 10 i s ∙ ap (λ (n : ℕ). take n s) m ∙ sym (take_min 10 (i + 1) s)))
    go (no l) =
        let m : min 10 i ≡ i = omega arith in
        let n : min 10 (i + 1) ≡ i + 1 = omega arith in
        rw (lt-ltb i 10 (omega arith), e, take_min 10 i s, take_min 10 (i + 1) s, m, n, q) (sym (number_more digit_of 36 s i h))

-- the key of a name's beginning lies below the cut
pub key-small : (s : List ℕ) (i : ℕ) → i ≤ run_len (in_base 36) s → key_of (take i s) < 2 ^ 52
key-small s i h =
    let r = run_len (in_base 36) s in
    let m : min i r ≡ i = omega arith in
    let w : take i s ≡ take i (take r s) = sym (rw m at (take_min i r s)) in
    key_below (take i s) (rw w (all_take (λ b. digit_of b < 36) i (take r s) (run-digits 36 s)))

-- what the digits at the front make: none, a number out of range, or a number
module _ {base : ℕ} {s : List ℕ} {d : Spelled} (most : ℕ) (bits : ℕ → ℕ) (mark : ℕ) (g : Digited base s d) where
  pub no_number : d.size ≡ 0 → Err NoToken ≡ number (in_base base) base most bits mark s
  unfolding number
  no_number e = rw (← g.size, eq-eqb d.size 0 e)

  module _ (some : d.size ≡ 0 → ⊥) (limit : most < 2 ^ 32) where
    v : ℕ
    v = number_from digit_of base 0 (take d.size s)

    cut : d.value ≡ min (2 ^ 52) v
    unfolding v
    cut = g.value

    pub big-number : most < d.value → Err OutOfRange ≡ number (in_base base) base most bits mark s
    unfolding number v
    big-number h = rw (← g.size, ne_eqb d.size 0 some, lt-ltb most v (omega (arith, cut)))

    pub a-number : d.value ≤ most → Ok (Token K.NUMBER (bits d.value) (mark + d.size)) ≡ number (in_base base) base most bits mark s
    unfolding number v
    a-number h =
        let e : v ≡ d.value = omega (arith, cut) in
        rw (← g.size, ne_eqb d.size 0 some, e, le-ltb most d.value h)
