-- A run of a and then of b instructions is a run of a + b, with counts added; a run that was stopped stays so. Assumes nothing.
use Prim.Native.Nat.{ℕ, zero, suc, ◌+◌, ◌<◌}
use mathlib.Core.Path.{◌≡◌, refl, ap, ◌∙◌}
use mathlib.Core.Bool.{Bool, true, false}
use mathlib.Core.List.{List}
use native.Mathlib.Omega.{arith}
use lib.Dec.{eqb}
use borrow.Author.Tests.{ne_eqb}
use Rattle.base.specs.Choose.{choose}
use Rattle.machine.specs.Space.{Space}
use Rattle.machine.specs.Step.{Cpu, Stepped, step}
use Rattle.machine.specs.Run.{Result, result, counted, onward, after, budget_used, run}
use Rattle.machine.proofs.Runs.{with-count, counted-twice}
use Rattle.machine.proofs.Stops.{Ends, on, off, step-ends}

-- b instructions more where the budget was used
abbrev pub resumed : Result → ℕ → Space → Result
resumed r b m = choose (eqb r.stop budget_used) (counted r.count (run b m r.cpu r.store)) r

resumed-counted : (r : Result) (b : ℕ) (m : Space) → counted 1 (resumed r b m) ≡ resumed (counted 1 r) b m
resumed-counted r b m = go (eqb r.stop budget_used)
  where
    go : (t : Bool) → counted 1 (choose t (counted r.count (run b m r.cpu r.store)) r)
        ≡ choose t (counted (1 + r.count) (run b m r.cpu r.store)) (counted 1 r)
    go true = counted-twice 1 r.count (run b m r.cpu r.store)
    go false = refl

stopped_more : (k : ℕ) (c : Cpu) (s : List ℕ) (n b : ℕ) (m : Space) → 0 < k → result k c n s ≡ resumed (result k c n s) b m
stopped_more k c s n b m h = rw (ne_eqb k 0 (λ e. omega arith))

pub run-add : (a b : ℕ) (m : Space) (c : Cpu) (s : List ℕ) → run (a + b) m c s ≡ resumed (run a m c s) b m
unfolding run onward
run-add zero b m c s =
    let e : zero + b ≡ b = omega arith in
    rw e (with-count (let z : (run b m c s).count ≡ 0 + (run b m c s).count = omega arith in z))
run-add (suc a) b m c s =
    let e : suc a + b ≡ suc (a + b) = omega arith in
    ap (λ (n : ℕ). run n m c s) e ∙ go (step m c s) (step-ends m c s) (λ d t. run-add a b m d t)
  where
    go : (o : Stepped) → Ends c s o → ((d : Cpu) (t : List ℕ) → run (a + b) m d t ≡ resumed (run a m d t) b m)
        → after o (λ d t. run (a + b) m d t) ≡ resumed (after o (λ d t. run a m d t)) b m
    go o (on {d} {t}) ih = ap (counted 1) (ih d t) ∙ resumed-counted (run a m d t) b m
    go o (off k z l) ih =
        let n : eqb k 5 ≡ false = ne_eqb k 5 (λ q. omega arith) in
        rw n (stopped_more k c s 0 b m z)
