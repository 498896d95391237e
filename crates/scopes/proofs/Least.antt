-- Of two broken rules the join is the one that is answered: "Inside a group the smallest place wins, then the smaller number." Assumes nothing.
use Rattle.std.specs.Prelude.{Some, None}
use mathlib.Core.Path.{◌≡◌, refl, sym}
use mathlib.Core.Logic.{◌⊎◌, inl, inr}
use mathlib.Core.Bool.{Bool, true, false, ◌&&◌, ◌||◌}
use Prim.Native.Nat.{◌≤◌}
use native.Mathlib.Omega.{arith}
use lib.Dec.{eqb, leb, ltb}
use borrow.Author.Tests.{ltb-false, leb-false, le-ltb, le-leb, eq-eqb}
use Rattle.base.proofs.Tests.{cases, never_true}
use Rattle.scopes.specs.declared.Broken.{Broken}
use Rattle.scopes.specs.Broken.{refusal_number, Ruling, unbroken, before, ◌⊕◌}
use Rattle.scopes.proofs.Joins.{some-none, is_some}

-- r is broken, and not after a
pub record Leads (r : Ruling) (a : Broken) : Type 0 where
  pub one : Broken
  pub is : r ≡ Some one
  pub before_it : before one a ≡ true

-- r is unbroken only if both are; else it is one of them, and no broken one comes before it
pub record LeastOf (a b r : Ruling) : Type 0 where
  pub unbroken : r ≡ unbroken → (a ≡ unbroken) × (b ≡ unbroken)
  pub one_of : (r ≡ a) ⊎ (r ≡ b)
  pub not-before-first : (x : Broken) → a ≡ Some x → Leads r x
  pub not-before-second : (x : Broken) → b ≡ Some x → Leads r x

before_self : (a : Broken) → before a a ≡ true
before_self a = rw (le-ltb a.at a.at (omega arith), eq-eqb a.at a.at refl, le-leb (refusal_number a.refusal) (refusal_number a.refusal) (omega arith))

-- one of two comes before the other
before-other : (a b : Broken) → before a b ≡ false → before b a ≡ true
before-other a b h = cases (ltb b.at a.at) (λ e. rw e) (λ e. go (ltb a.at b.at) refl (ltb-false b.at a.at e) h)
  where
    go : (x : Bool) → ltb a.at b.at ≡ x → a.at ≤ b.at → (x || (eqb a.at b.at && leb (refusal_number a.refusal) (refusal_number b.refusal))) ≡ false → before b a ≡ true
    go true p l q = never_true (sym q)
    go false p l q =
        let m = ltb-false a.at b.at p in
        let s : a.at ≡ b.at = omega arith in
        let n : leb (refusal_number a.refusal) (refusal_number b.refusal) ≡ false = rw (eq-eqb a.at b.at s) at q in
        rw (le-ltb b.at a.at l, eq-eqb b.at a.at (sym s), le-leb (refusal_number b.refusal) (refusal_number a.refusal) (omega (arith, leb-false _ _ n)))

-- a broken rule leads itself, and all that it comes before
leads : (a b c : Broken) → before a c ≡ true → ◌≡◌ {A = Ruling} (Some c) (Some b) → Leads (Some a) b
leads a b c h e = record { one = a; is = refl; before_it = rw (sym (is_some e)) h }

pub join-least : (a b : Ruling) → LeastOf a b (a ⊕ b)
unfolding ◌⊕◌
join-least None None = record { unbroken = λ u. (u, u); one_of = inl refl; not-before-first = λ x e. absurd (some-none (sym e)); not-before-second = λ x e. absurd (some-none (sym e)) }
join-least (Some a) None =
    record { unbroken = λ u. (u, refl); one_of = inl refl; not-before-first = λ x e. leads a x a (before_self a) e; not-before-second = λ x e. absurd (some-none (sym e)) }
join-least None (Some b) =
    record { unbroken = λ u. (refl, u); one_of = inr refl; not-before-first = λ x e. absurd (some-none (sym e)); not-before-second = λ x e. leads b x b (before_self b) e }
join-least (Some a) (Some b) =
    cases (before a b)
    (λ g.
    rw g
    (record {
      unbroken = λ u. absurd (some-none u);
      one_of = inl refl;
      not-before-first = λ x e. leads a x a (before_self a) e;
      not-before-second = λ x e. leads a x b g e;
    }))
    (λ g.
    rw g
    (record {
      unbroken = λ u. absurd (some-none u);
      one_of = inr refl;
      not-before-first = λ x e. leads b x a (before-other a b g) e;
      not-before-second = λ x e. leads b x b (before_self b) e;
    }))
