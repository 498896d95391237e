-- Stacks as arrays: the newest element, one more, one less.
use mathlib.Core.Path.{◌≡◌, refl}
use mathlib.Core.List.{List, ◌∷◌}
use Prim.Native.Nat.{ℕ, zero, suc, ◌+◌, ◌-◌, ◌≤◌, ◌<◌}
use native.Mathlib.Omega.{arith}
use native.Mathlib.Numerals.{add-one}
use lib.ListN.{get_or, set, length}
use lib.Seq.{get_or-set_same, get_or-set_other}
use Rattle.base.proofs.Numbers.{one_less}
use Rattle.tables.specs.Stacks.{stack_of, top, under}

module _ (a : List ℕ) where
  pub top-none : (d : ℕ) → d ≡ 0 → 0 ≡ top (stack_of a d)
  unfolding stack_of
  top-none d e = rw e

  pub top-some : (d : ℕ) → (d ≡ 0 → ⊥) → get_or a (d - 1) 0 ≡ top (stack_of a d)
  unfolding stack_of
  top-some zero h = absurd (h refl)
  top-some (suc d) h = rw (one_less d)

  set-above : (i x d : ℕ) → d ≤ i → stack_of (set a i x) d ≡ stack_of a d
  unfolding stack_of
  set-above i x zero h = refl
  set-above i x (suc d) h = rw (get_or-set_other a i d x 0 (λ e. absurd (omega arith)), set-above i x d (omega arith))

  pub pushed : (d x : ℕ) → d < length a → stack_of (set a d x) (d + 1) ≡ x ∷ stack_of a d
  unfolding stack_of
  pushed d x h = rw (add-one d, get_or-set_same a d x 0 h, set-above d x d (omega arith))

  pub popped : (d : ℕ) → stack_of a (d - 1) ≡ under (stack_of a d)
  unfolding stack_of
  popped zero = refl
  popped (suc d) = rw (one_less d)
