-- Joining broken rules is associative, unbroken adds nothing, and nothing is broken exactly where no part is: the code keeps a running join, and what
-- follows from "no rule is broken" follows for every rule.
use mathlib.Core.Path.{◌≡◌, refl, sym, ap, ◌∙◌}
use Rattle.std.specs.Prelude.{Some, None}
use mathlib.Core.Logic.{◌⊎◌, inl, inr}
use mathlib.Core.Bool.{Bool, true, false, ◌&&◌, ◌||◌}
use Prim.Native.Nat.{ℕ, ◌<◌, ◌≤◌}
use native.Mathlib.Omega.{arith}
use lib.Dec.{eqb, leb, ltb}
use borrow.Author.Tests.{ltb-true, ltb-false, eqb-true, eqb-false, leb-true, leb-false, lt-ltb, le-ltb, le-leb, lt-leb, eq-eqb, ne_eqb}
use Rattle.base.specs.Choose.{choose}
use Rattle.base.proofs.Tests.{never_true}
use Rattle.scopes.specs.declared.Broken.{Broken}
use Rattle.scopes.specs.declared.Refusal.{Refusal}
use Rattle.scopes.specs.Broken.{refusal_number, Ruling, unbroken, rule, before, ◌⊕◌}

-- ── the order ──

abbrev Before : Broken → Broken → Type 0
Before a b = (a.at < b.at) ⊎ ((a.at ≡ b.at) × (refusal_number a.refusal ≤ refusal_number b.refusal))

abbrev After : Broken → Broken → Type 0
After a b = (b.at < a.at) ⊎ ((b.at ≡ a.at) × (refusal_number b.refusal < refusal_number a.refusal))

or_is : (x y : Bool) → (x || y) ≡ true → (x ≡ true) ⊎ (y ≡ true)
or_is true y h = inl refl
or_is false y h = inr h

before-is : (a b : Broken) → before a b ≡ true → Before a b
before-is a b h = go (or_is (ltb a.at b.at) (eqb a.at b.at && leb (refusal_number a.refusal) (refusal_number b.refusal)) h)
  where
    both : (x y : Bool) → (x && y) ≡ true → (x ≡ true) × (y ≡ true)
    both true y h = (refl, h)
    both false y h = never_true h

    go : (ltb a.at b.at ≡ true) ⊎ ((eqb a.at b.at && leb (refusal_number a.refusal) (refusal_number b.refusal)) ≡ true) → Before a b
    go (inl e) = inl (ltb-true _ _ e)
    go (inr e) = let p = both _ _ e in inr (eqb-true _ _ p.0, leb-true _ _ p.1)

after_is : (a b : Broken) → before a b ≡ false → After a b
after_is a b h = go (ltb a.at b.at) refl (eqb a.at b.at) refl (leb (refusal_number a.refusal) (refusal_number b.refusal)) refl h
  where
    go : (x : Bool) → ltb a.at b.at ≡ x → (y : Bool) → eqb a.at b.at ≡ y → (z : Bool) → leb (refusal_number a.refusal) (refusal_number b.refusal) ≡ z → (x || (y && z)) ≡ false → After a b
    go true p y q z r k = never_true (sym k)
    go false p true q true r k = never_true (sym k)
    go false p true q false r k = inr (sym (eqb-true _ _ q), leb-false _ _ r)
    go false p false q z r k = inl (let n = ltb-false _ _ p in let m = eqb-false _ _ q in apart a.at b.at n m)
      where
        apart : (i j : ℕ) → j ≤ i → (i ≡ j → ⊥) → j < i
        apart i j u v = omega arith

is-before : (a b : Broken) → Before a b → before a b ≡ true
is-before a b (inl h) = rw (lt-ltb _ _ h)
is-before a b (inr h) = go (ltb a.at b.at)
  where
    go : (x : Bool) → (x || (eqb a.at b.at && leb (refusal_number a.refusal) (refusal_number b.refusal))) ≡ true
    go true = refl
    go false = rw (eq-eqb a.at b.at h.0, le-leb _ _ h.1)

is-after : (a b : Broken) → After a b → before a b ≡ false
is-after a b (inl h) = rw (le-ltb a.at b.at (omega arith), ne_eqb a.at b.at (apart a.at b.at h))
  where
    apart : (i j : ℕ) → j < i → i ≡ j → ⊥
    apart i j u v = omega arith
is-after a b (inr h) = let e = h.0 in rw (le-ltb a.at b.at (omega arith), lt-leb _ _ h.1) (never (eqb a.at b.at))
  where
    never : (x : Bool) → (x && false) ≡ false
    never true = refl
    never false = refl

before-trans : (a b c : Broken) → Before a b → Before b c → Before a c
before-trans a b c (inl h) (inl k) = inl (omega arith)
before-trans a b c (inl h) (inr k) = let e = k.0 in inl (omega arith)
before-trans a b c (inr h) (inl k) = let e = h.0 in inl (omega arith)
before-trans a b c (inr h) (inr k) = let e = h.0 in let f = k.0 in let m = h.1 in let n = k.1 in inr (omega arith, omega arith)

after-trans : (a b c : Broken) → After a b → After b c → After a c
after-trans a b c (inl h) (inl k) = inl (omega arith)
after-trans a b c (inl h) (inr k) = let e = k.0 in inl (omega arith)
after-trans a b c (inr h) (inl k) = let e = h.0 in inl (omega arith)
after-trans a b c (inr h) (inr k) = let e = h.0 in let f = k.0 in let m = h.1 in let n = k.1 in inr (omega arith, omega arith)

-- ── the join ──

first-wins : (a b : Broken) → before a b ≡ true → Some a ⊕ Some b ≡ Some a
unfolding ◌⊕◌
first-wins a b h = rw h

second-wins : (a b : Broken) → before a b ≡ false → Some a ⊕ Some b ≡ Some b
unfolding ◌⊕◌
second-wins a b h = rw h

pub join-right : (a : Ruling) → a ⊕ unbroken ≡ a
unfolding ◌⊕◌
join-right a = refl

pub join_left : (a : Ruling) → unbroken ⊕ a ≡ a
unfolding ◌⊕◌
join_left None = refl
join_left (Some a) = refl

abbrev on-left : (c : Ruling) {a b : Ruling} → a ≡ b → a ⊕ c ≡ b ⊕ c
on-left c e = ap (λ (x : Ruling). x ⊕ c) e

abbrev on-right : (a : Ruling) {b c : Ruling} → b ≡ c → a ⊕ b ≡ a ⊕ c
on-right a e = ap (λ (x : Ruling). a ⊕ x) e

all-broken : (a b c : Broken) → (Some a ⊕ Some b) ⊕ Some c ≡ Some a ⊕ (Some b ⊕ Some c)
all-broken a b c = go (before a b) refl (before b c) refl
  where
    go : (p : Bool) → before a b ≡ p → (q : Bool) → before b c ≡ q → (Some a ⊕ Some b) ⊕ Some c ≡ Some a ⊕ (Some b ⊕ Some c)
    go true ep true eq =
        on-left (Some c) (first-wins a b ep)
        ∙ (first-wins a c (is-before a c (before-trans a b c (before-is a b ep) (before-is b c eq))) ∙ sym (on-right (Some a) (first-wins b c eq) ∙ first-wins a b ep))
    go true ep false eq = on-left (Some c) (first-wins a b ep) ∙ sym (on-right (Some a) (second-wins b c eq))
    go false ep true eq = on-left (Some c) (second-wins a b ep) ∙ (first-wins b c eq ∙ sym (on-right (Some a) (first-wins b c eq) ∙ second-wins a b ep))
    go false ep false eq =
        on-left (Some c) (second-wins a b ep)
        ∙ (second-wins b c eq ∙ sym (on-right (Some a) (second-wins b c eq) ∙ second-wins a c (is-after a c (after-trans a b c (after_is a b ep) (after_is b c eq)))))

pub join-assoc : (a b c : Ruling) → (a ⊕ b) ⊕ c ≡ a ⊕ (b ⊕ c)
join-assoc a b None = join-right (a ⊕ b) ∙ sym (on-right a (join-right b))
join-assoc a None (Some c) = on-left (Some c) (join-right a) ∙ sym (on-right a (join_left (Some c)))
join-assoc None (Some b) (Some c) = on-left (Some c) (join_left (Some b)) ∙ sym (join_left (Some b ⊕ Some c))
join-assoc (Some a) (Some b) (Some c) = all-broken a b c

-- ── nothing broken ──

pub some-none : {a : Broken} → Some a ≡ unbroken → ⊥
some-none e = let z : ◌≡◌ {A = ℕ} 0 1 = cc in omega arith

pub is_some : {a b : Broken} → ◌≡◌ {A = Ruling} (Some a) (Some b) → a ≡ b
is_some e = cc

pub quiet-left : (a b : Ruling) → a ⊕ b ≡ unbroken → a ≡ unbroken
unfolding ◌⊕◌
quiet-left a None h = h
quiet-left None (Some b) h = refl
quiet-left (Some a) (Some b) h = go (before a b) h
  where
    go : (p : Bool) → choose p (Some a) (Some b) ≡ unbroken → Some a ≡ unbroken
    go true e = e
    go false e = absurd (some-none e)

pub quiet-right : (a b : Ruling) → a ⊕ b ≡ unbroken → b ≡ unbroken
unfolding ◌⊕◌
quiet-right a None h = refl
quiet-right None (Some b) h = h
quiet-right (Some a) (Some b) h = go (before a b) h
  where
    go : (p : Bool) → choose p (Some a) (Some b) ≡ unbroken → Some b ≡ unbroken
    go true e = absurd (some-none e)
    go false e = e

-- a rule that is not broken holds
pub rule-holds : (b : Bool) (r : Refusal) (t : ℕ) → rule b r t ≡ unbroken → b ≡ true
unfolding rule
rule-holds true r t h = refl
rule-holds false r t h = absurd (some-none h)

pub rule-true : (b : Bool) (r : Refusal) (t : ℕ) → b ≡ true → rule b r t ≡ unbroken
unfolding rule
rule-true b r t h = rw h
