-- The protected registers as arrays: what each move leaves.
use mathlib.Core.Path.{◌≡◌, refl, ap, ap₂, ◌∙◌}
use mathlib.Core.List.{List}
use Prim.Native.Nat.{ℕ, zero, suc, ◌+◌, ◌-◌, ◌<◌}
use native.Mathlib.Omega.{arith}
use native.Mathlib.Nat.{sub-zero}
use native.Mathlib.Numerals.{add-one}
use lib.ListN.{set, length, drop}
use Rattle.ledger.specs.Book.{Wide, wide_of, put_offset}
use Rattle.tables.specs.Stacks.{stack_of, top}
use Rattle.tables.proofs.Stacks.{pushed, popped}
use Rattle.judge.specs.declared.Depths.{Depths}
use Rattle.judge.specs.Along.{Held, enter_block, leave_block, keep_base, keep_return, leave_procedure, held_of, Moved, with_offsets, Stays}

abbrev depths : (kept count counts : ℕ) → Depths
depths kept count counts = record { kept = kept; count = count; counts = counts }

abbrev held : List ℕ → ℕ → List ℕ → Held
held kept count counts = record { kept = kept; count = count; counts = counts }

-- the newest ones are taken away
dropped : (a : List ℕ) (d c : ℕ) → stack_of a (d - c) ≡ drop c (stack_of a d)
unfolding stack_of
dropped a d zero = rw (sub-zero d)
dropped a zero (suc c) = let e : 0 - suc c ≡ 0 = omega arith in rw e
dropped a (suc d) (suc c) = let e : suc d - suc c ≡ d - c = omega arith in rw e (dropped a d c)

-- ── the column of offsets ──

pub stays_same : (l : List ℕ) → Stays (wide_of l) (wide_of l)
unfolding wide_of
stays_same l = refl

pub stays_on : (w w' w'' : Wide) → Stays w w' → Stays w' w'' → Stays w w''
stays_on w w' w'' e g = g ∙ ap (with_offsets w''.offsets) e

module _ (w w' : Wide) (t v : ℕ) (e : w' ≡ put_offset t v w) where
  pub offsets-put : w'.offsets ≡ set w.offsets t v
  offsets-put = ap (λ (x : Wide). x.offsets) e

  pub put-stays : Stays w w'
  put-stays = rw e

-- ── the moves ──

module _ (kept counts : List ℕ) (d : Depths) where
  pub entered-block :
      {counts' : List ℕ} → d.counts < length counts → counts' ≡ set counts d.counts d.count
      → Moved (enter_block (held_of kept counts d)) kept counts' d (depths d.kept 0 (d.counts + 1))
  entered-block h e = record {
    is = ap (λ (l : List ℕ). held (stack_of kept d.kept) 0 l) (ap (λ (a : List ℕ). stack_of a (d.counts + 1)) e ∙ pushed counts d.counts d.count h);
    deep = omega arith;
  }

  pub left-block :
      (k c n : ℕ) → k ≡ d.kept - d.count → c ≡ top (stack_of counts d.counts) → n ≡ d.counts - 1 → Moved (leave_block (held_of kept counts d)) kept counts d (depths k c n)
  left-block k c n e f g = record {
    is = rw (e, f, g, dropped kept d.kept d.count, popped counts d.counts);
    deep = omega arith;
  }

  pub kept-base :
      {kept' : List ℕ} (r : ℕ) → d.kept < length kept → kept' ≡ set kept d.kept r
      → Moved (keep_base r (held_of kept counts d)) kept' counts d (depths (d.kept + 1) (d.count + 1) d.counts)
  kept-base r h e = record {
    is = ap₂ (λ (l : List ℕ) (n : ℕ). held l n (stack_of counts d.counts)) (ap (λ (a : List ℕ). stack_of a (d.kept + 1)) e ∙ pushed kept d.kept r h) (add-one d.count);
    deep = omega arith;
  }

  pub kept-return :
      {kept' : List ℕ} (r : ℕ) → d.kept < length kept → kept' ≡ set kept d.kept r
      → Moved (keep_return r (held_of kept counts d)) kept' counts d (depths (d.kept + 1) d.count d.counts)
  kept-return r h e = record {
    is = ap (λ (l : List ℕ). held l d.count (stack_of counts d.counts)) (ap (λ (a : List ℕ). stack_of a (d.kept + 1)) e ∙ pushed kept d.kept r h);
    deep = omega arith;
  }

  pub left-procedure : (k : ℕ) → k ≡ d.kept - 1 → Moved (leave_procedure (held_of kept counts d)) kept counts d (depths k d.count d.counts)
  left-procedure k e = record {
    is = ap (λ (l : List ℕ). held l d.count (stack_of counts d.counts)) (ap (λ (n : ℕ). stack_of kept n) e ∙ popped kept d.kept);
    deep = omega arith;
  }
