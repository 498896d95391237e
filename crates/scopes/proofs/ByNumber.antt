-- Of two broken rules, by whatever numbers, the join is the one that is answered, and rulings are joined as their numbers are. Assumes nothing.
use mathlib.Core.Path.{◌≡◌, refl, sym}
use mathlib.Core.Logic.{◌⊎◌, inl, inr}
use mathlib.Core.Bool.{Bool, true, false, ◌&&◌, ◌||◌}
use Prim.Native.Nat.{◌≤◌}
use native.Mathlib.Omega.{arith}
use lib.Dec.{eqb, leb, ltb}
use borrow.Author.Tests.{ltb-false, eqb-true, eqb-false, leb-false, le-ltb, le-leb, eq-eqb}
use Rattle.base.proofs.Tests.{cases, never_true}
use Rattle.std.specs.Prelude.{Some, None}
use Rattle.scopes.specs.declared.Refusal.{Refusal}
use Rattle.scopes.specs.declared.Refusal.TheVariants.{NotFound, Twice, Misfit, WrongRegister, Protected, OutOfBounds, NoRoom, TooMany}
use Rattle.scopes.specs.declared.Broken.{Broken}
use Rattle.scopes.specs.Broken.{refusal_number, Ruling, before, ◌⊕◌}
use Rattle.scopes.specs.ByNumber.{Numbered, earlier, joined, numbered}

-- r is unbroken only if both are; else it is one of them, and no broken one comes before it
pub record LeastByNumber (a b r : Numbered) : Type 0 where
  pub unbroken : r.number ≡ 0 → (a.number ≡ 0) × (b.number ≡ 0)
  pub one_of : (r ≡ a) ⊎ (r ≡ b)
  pub not-before-first : (a.number ≡ 0 → ⊥) → earlier r a ≡ true
  pub not-before-second : (b.number ≡ 0 → ⊥) → earlier r b ≡ true

earlier_self : (a : Numbered) → earlier a a ≡ true
earlier_self a = rw (le-ltb a.at a.at (omega arith), eq-eqb a.at a.at refl, le-leb a.number a.number (omega arith))

-- one of two comes before the other
earlier-other : (a b : Numbered) → earlier a b ≡ false → earlier b a ≡ true
earlier-other a b h = cases (ltb b.at a.at) (λ e. rw e) (λ e. go (ltb a.at b.at) refl (ltb-false b.at a.at e) h)
  where
    go : (x : Bool) → ltb a.at b.at ≡ x → a.at ≤ b.at → (x || (eqb a.at b.at && leb a.number b.number)) ≡ false → earlier b a ≡ true
    go true p l q = never_true (sym q)
    go false p l q =
        let m = ltb-false a.at b.at p in
        let s : a.at ≡ b.at = omega arith in
        let n : leb a.number b.number ≡ false = rw (eq-eqb a.at b.at s) at q in
        rw (le-ltb b.at a.at l, eq-eqb b.at a.at (sym s), le-leb b.number a.number (omega (arith, leb-false a.number b.number n)))

pub least-joined : (a b : Numbered) → LeastByNumber a b (joined a b)
unfolding joined
least-joined a b =
    cases (eqb b.number 0)
    (λ e.
    let z = eqb-true b.number 0 e in
    rw e (record { unbroken = λ u. (u, z); one_of = inl refl; not-before-first = λ n. earlier_self a; not-before-second = λ n. absurd (n z) }))
    (λ e.
    cases (eqb a.number 0)
    (λ f.
    let z = eqb-true a.number 0 f in
    rw (e, f) (record { unbroken = λ u. (z, u); one_of = inr refl; not-before-first = λ n. absurd (n z); not-before-second = λ n. earlier_self b }))
    (λ f.
    cases (earlier a b)
    (λ g.
    rw (e, f, g)
    (record { unbroken = λ u. absurd (eqb-false a.number 0 f u); one_of = inl refl; not-before-first = λ n. earlier_self a; not-before-second = λ n. g }))
    (λ g.
    rw (e, f, g)
    (record { unbroken = λ u. absurd (eqb-false b.number 0 e u); one_of = inr refl; not-before-first = λ n. earlier-other a b g; not-before-second = λ n. earlier_self b }))))

-- no refusal has the number of none
some_number : (r : Refusal) → eqb (refusal_number r) 0 ≡ false
some_number NotFound = refl
some_number Twice = refl
some_number Misfit = refl
some_number WrongRegister = refl
some_number Protected = refl
some_number OutOfBounds = refl
some_number NoRoom = refl
some_number TooMany = refl

pub joined-numbers : (a b : Ruling) → numbered (a ⊕ b) ≡ joined (numbered a) (numbered b)
unfolding ◌⊕◌ joined
joined-numbers None None = refl
joined-numbers (Some a) None = refl
joined-numbers None (Some b) = rw (some_number b.refusal) refl
joined-numbers (Some a) (Some b) = rw (some_number b.refusal, some_number a.refusal) (cases (before a b) (λ e. rw e refl) (λ e. rw e refl))
