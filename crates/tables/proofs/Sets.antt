-- Sets of registers as bits: a register more, all of another set, and the sets of all procedures.
use mathlib.Core.Path.{◌≡◌, refl, sym, ap, ap₂, ◌∙◌}
use mathlib.Core.Bool.{Bool, true, false, not, ◌||◌}
use mathlib.Core.List.{List, [], ◌∷◌, map}
use Prim.Native.Nat.{ℕ, zero, suc, ◌+◌, ◌*◌, ◌/◌, ◌%◌, ◌^◌, ◌≤◌, ◌<◌, max}
use native.Mathlib.Omega.{arith}
use lib.Dec.{eqb, T}
use lib.Bits.{bit_or, or_step}
use lib.Pow.{shr-shr, shl_exact}
use lib.ListN.{get_or, set, get_or-eq_default}
use borrow.Author.Tests.{ne_eqb}
use Rattle.base.specs.Choose.{whether◌then◌else◌}
use Rattle.base.specs.Lists.{All}
use Rattle.base.specs.Tables.{all_below}
use Rattle.base.proofs.Tables.{all-below}
use Rattle.static_rules.specs.Registers.{Registers, sixteen, flags, has, no_registers, add_register, union}
use Rattle.static_rules.proofs.Flags.{has-flags, length-flags}
use Rattle.tables.specs.Packed.{has_bit, set_of, sets_of, grown}

-- ── a bit of two numbers ──

abbrev bit_at : ℕ → ℕ → ℕ
bit_at m zero = m % 2
bit_at m (suc r) = bit_at (m / 2) r

bit-at : (m r : ℕ) → m / 2 ^ r % 2 ≡ bit_at m r
bit-at m zero = omega arith
bit-at m (suc r) = let e : suc r ≡ 1 + r = omega arith in rw (e, ← shr-shr m 1 r) (bit-at (m / 2) r)

or-half : (a b : ℕ) → bit_or a b / 2 ≡ bit_or (a / 2) (b / 2)
or-half a b = omega (arith, or_step a b)

or-end : (a b : ℕ) → bit_or a b % 2 ≡ max (a % 2) (b % 2)
or-end a b = omega (arith, or_step a b)

one_of : (x y : ℕ) → x < 2 → y < 2 → eqb (max x y) 1 ≡ (eqb x 1 || eqb y 1)
one_of zero zero h k = refl
one_of zero (suc zero) h k = refl
one_of zero (suc (suc y)) h k = absurd (omega arith)
one_of (suc zero) zero h k = refl
one_of (suc zero) (suc zero) h k = refl
one_of (suc zero) (suc (suc y)) h k = absurd (omega arith)
one_of (suc (suc x)) y h k = absurd (omega arith)

or_at : (a b r : ℕ) → eqb (bit_at (bit_or a b) r) 1 ≡ (eqb (bit_at a r) 1 || eqb (bit_at b r) 1)
or_at a b zero = rw (or-end a b) (one_of (a % 2) (b % 2) (omega arith) (omega arith))
or_at a b (suc r) = rw (or-half a b) (or_at (a / 2) (b / 2) r)

pub or-bit : (a b r : ℕ) → has_bit (bit_or a b) r ≡ (has_bit a r || has_bit b r)
unfolding has_bit
or-bit a b r = rw (bit-at (bit_or a b) r, bit-at a r, bit-at b r) (or_at a b r)

-- ── sets ──

flags-same : (f g : ℕ → Bool) → ((r : ℕ) → r < 16 → f r ≡ g r) → flags f ≡ flags g
unfolding flags
flags-same f g h = go sixteen (omega arith)
  where
    flag : Bool → ℕ
    flag x = whether x then 1 else 0

    go : (l : List ℕ) → All (λ r. r < 16) l → map (λ (r : ℕ). flag (f r)) l ≡ map (λ (r : ℕ). flag (g r)) l
    go [] a = refl
    go (r ∷ l) a = ap₂ (λ (x : Bool) (m : List ℕ). flag x ∷ m) (h r a.0) (go l a.1)

pub has-set : (m r : ℕ) → r < 16 → has (set_of m) r ≡ has_bit m r
unfolding set_of
has-set m r h = has-flags (λ x. has_bit m x) r h

pub has-past : (m r : ℕ) → 16 ≤ r → has (set_of m) r ≡ false
unfolding set_of has
has-past m r h = rw (get_or-eq_default (flags (λ x. has_bit m x)) 0 {n = r} (omega (arith, length-flags (λ x. has_bit m x))))

pub set-union : (a b : ℕ) → set_of (bit_or a b) ≡ union (set_of a) (set_of b)
unfolding set_of union
set-union a b = flags-same _ _ (λ r h. or-bit a b r ∙ sym (ap₂ (λ (x y : Bool). x || y) (has-flags (λ x. has_bit a x) r h) (has-flags (λ x. has_bit b x) r h)))

agree : Bool → Bool → Bool
agree a b = whether a then b else not b

agreed : (a b : Bool) → T (agree a b) → a ≡ b
unfolding agree
agreed true true t = refl
agreed true false t = absurd t
agreed false true t = absurd t
agreed false false t = refl

one_bit : (x r : ℕ) → x < 16 → r < 16 → has_bit (2 ^ x) r ≡ eqb r x
unfolding has_bit agree
one_bit x r h k = agreed _ _ (all-below 16 (λ r. agree (has_bit (2 ^ x) r) (eqb r x)) (all-below 16 (λ x. all_below 16 (λ r. agree (has_bit (2 ^ x) r) (eqb r x))) tt x h) r k)

pub set_more : (x m : ℕ) → x < 16 → set_of (bit_or m (2 ^ x)) ≡ add_register x (set_of m)
unfolding set_of add_register
set_more x m h = flags-same _ _ (λ r k. or-bit m (2 ^ x) r ∙ (or_swap (has_bit m r) (has_bit (2 ^ x) r) ∙ ap₂ (λ (a b : Bool). a || b) (one_bit x r h k) (sym (has-flags (λ y. has_bit m y) r k))))
  where
    or_swap : (a b : Bool) → (a || b) ≡ (b || a)
    or_swap true true = refl
    or_swap true false = refl
    or_swap false true = refl
    or_swap false false = refl

pub set_same : (x m : ℕ) → 16 ≤ x → set_of m ≡ add_register x (set_of m)
unfolding set_of add_register
set_same x m h = flags-same _ _ (λ r k. sym (rw (ne_eqb r x (λ e. omega arith)) (has-flags (λ y. has_bit m y) r k)))

pub set-none : set_of 0 ≡ no_registers
unfolding set_of flags has_bit
set-none = refl

-- ── code ──

pub shifted : (x : ℕ) → x < 16 → (1 * 2 ^ x) % 2 ^ 64 ≡ 2 ^ x
shifted x h = shl_exact 1 x 64 (omega arith) (omega arith) ∙ omega arith

-- ── the sets of all procedures ──

pub sets-at : (ws : List ℕ) (p : ℕ) → get_or (sets_of ws) p no_registers ≡ set_of (get_or ws p 0)
unfolding sets_of
sets-at [] p = sym set-none
sets-at (w ∷ ws) zero = refl
sets-at (w ∷ ws) (suc p) = sets-at ws p

sets-set : (ws : List ℕ) (p w : ℕ) → sets_of (set ws p w) ≡ set (sets_of ws) p (set_of w)
unfolding sets_of
sets-set [] p w = refl
sets-set (x ∷ ws) zero w = refl
sets-set (x ∷ ws) (suc p) w = ap (λ (l : List Registers). set_of x ∷ l) (sets-set ws p w)

module _ (ws ws' : List ℕ) (own : ℕ) where
  pub grown-by : (f : Registers → Registers) (g w : ℕ) → g ≡ get_or ws own 0 → set_of w ≡ f (set_of g) → ws' ≡ set ws own w → sets_of ws' ≡ grown own f (sets_of ws)
  grown-by f g w i h e = ap sets_of e ∙ (sets-set ws own w ∙ ap (λ (x : Registers). set (sets_of ws) own x) (h ∙ ap f (ap set_of i ∙ sym (sets-at ws own))))

  pub grown-text :
      (p g h : ℕ) → g ≡ get_or ws p 0 → h ≡ get_or ws own 0 → ws' ≡ set ws own (bit_or g h) → sets_of ws' ≡ grown own (union (get_or (sets_of ws) p no_registers)) (sets_of ws)
  grown-text p g h i j e =
      grown-by (union (get_or (sets_of ws) p no_registers)) h (bit_or g h) j (set-union g h ∙ ap (λ (x : Registers). union x (set_of h)) (ap set_of i ∙ sym (sets-at ws p))) e
