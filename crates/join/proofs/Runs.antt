-- Any number of instructions: a run from a state that meets the invariant ends at one that does, and stops as it may.
use mathlib.Core.Path.{◌≡◌, refl}
use mathlib.Core.Logic.{◌⊎◌, inl, inr}
use mathlib.Core.List.{List}
use Prim.Native.Nat.{ℕ, zero, suc, ◌+◌}
use native.Mathlib.Omega.{arith}
use borrow.Author.Tests.{eq-eqb, ne_eqb}
use Rattle.base.specs.Lists.{◌∈◌}
use Rattle.machine.specs.Space.{Space}
use Rattle.machine.specs.Step.{Cpu, completed, step}
use Rattle.machine.specs.Run.{Result, budget_used, onward, after, run}
use Rattle.machine.proofs.Stops.{stopped-same}
use Rattle.machine.proofs.Effects.{Changes}
use Rattle.translation.specs.Instructions.{Instruction}
use Rattle.translation.specs.Layout.{Layout}
use Rattle.join.specs.Writes.{writes}
use Rattle.join.specs.Points.{Placed}
use Rattle.join.proofs.Step.{InStorage, Inv, Allowed, Fine, stops, goes, step-fine}

-- what holds at the end of a run of b instructions, and how it ended; P is kept by each instruction
pub record Ends (n : ℕ) (w : List Placed) (m : Space) (s₀ : List ℕ) (P : Cpu → Type 0) (b : ℕ) (r : Result) : Type 0 where
  pub inv : Inv n w m s₀ r.cpu r.store
  pub also : P r.cpu
  pub how : ((r.stop ≡ budget_used) × (r.count ≡ b)) ⊎ Allowed inv.x.instruction r.stop

module _ (n : ℕ) (l : Layout) (e : ℕ) (w : List Placed) (m : Space) (s₀ : List ℕ) (p : InStorage n l e w m s₀) (P : Cpu → Type 0)
    (keeps : (x : Placed) → x ∈ w → (c d : Cpu) → Changes c (writes x.instruction) d → P c → P d)
  where
    not-completed : (i : Instruction) (k : ℕ) → Allowed i k → k ≡ completed → ⊥
    not-completed i k (inl h) q = let a = h.0 in omega arith
    not-completed i k (inr (inl h, x)) q = omega arith
    not-completed i k (inr (inr h, x)) q = omega arith

    pub run-fine : (b : ℕ) (c : Cpu) (s : List ℕ) → Inv n w m s₀ c s → P c → Ends n w m s₀ P b (run b m c s)
    unfolding run onward
    run-fine zero c s v h = record { inv = v; also = h; how = inl (refl, refl) }
    run-fine (suc b) c s v h = go (step-fine n l e w m s₀ p c s v) (λ d t u k. run-fine b d t u k)
      where
        more : (r : Result) → (u : Ends n w m s₀ P b r) → ((r.stop ≡ budget_used) × (1 + r.count ≡ suc b)) ⊎ Allowed u.inv.x.instruction r.stop
        more r u = on u.how
          where
            on : ((r.stop ≡ budget_used) × (r.count ≡ b)) ⊎ Allowed u.inv.x.instruction r.stop
                → ((r.stop ≡ budget_used) × (1 + r.count ≡ suc b)) ⊎ Allowed u.inv.x.instruction r.stop
            on (inl q) = let z = q.1 in inl (q.0, omega arith)
            on (inr q) = inr q

        go : Fine n w m s₀ c s v.x.instruction → ((d : Cpu) (t : List ℕ) → Inv n w m s₀ d t → P d → Ends n w m s₀ P b (run b m d t))
            → Ends n w m s₀ P (suc b) (after (step m c s) (λ d t. run b m d t))
        go (goes q ch u) f =
            let k = f (step m c s).turn.cpu (step m c s).store u (keeps v.x v.one c _ ch h) in
            rw (eq-eqb (step m c s).turn.stop completed q) (record { inv = k.inv; also = k.also; how = more _ k })
        go (stops a) f =
            let no = not-completed v.x.instruction (step m c s).turn.stop a in
            let same = stopped-same m c s no in
            rw (ne_eqb (step m c s).turn.stop completed no)
            (rw (same.0, same.1) (record { inv = v; also = h; how = inr a }))
