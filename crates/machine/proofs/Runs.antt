-- A run's turns, in the form of the loop's invariant: n instructions are completed, and the run of what is left of the budget, counted on from n, is the whole.
-- Assumes nothing.
use Prim.Native.Nat.{ℕ, suc, ◌+◌, ◌-◌, ◌<◌, ◌≤◌}
use mathlib.Core.Path.{◌≡◌, sym, ap, ◌∙◌}
use mathlib.Core.List.{List}
use Rattle.std.proofs.Common.{Option, Some, None}
use native.Mathlib.Omega.{arith}
use borrow.Author.Tests.{ne_eqb}
use Rattle.machine.specs.declared.Stop.{Stop}
use Rattle.machine.specs.declared.Stop.TheVariants.{BudgetUsed, AtEnd, Forbidden, Misaligned, NoInstruction}
use Rattle.machine.specs.Space.{Space}
use Rattle.machine.specs.Step.{Cpu, Stepped, stepped, step}
use Rattle.machine.specs.Run.{Result, result, counted, onward, after, run}
use Rattle.machine.specs.Lent.{stop_of, stop_or_completed}

pub with-count : {k : ℕ} {c : Cpu} {n n' : ℕ} {s : List ℕ} → n ≡ n' → result k c n s ≡ result k c n' s
with-count {k} {c} {s = s} e = ap (λ (n : ℕ). result k c n s) e

pub counted-twice : (n m : ℕ) (r : Result) → counted n (counted m r) ≡ counted (n + m) r
counted-twice n m r = with-count (let e : n + (m + r.count) ≡ n + m + r.count = omega arith in e)

-- a stop is not the number of none
pub stops : (k : Stop) → stop_of k ≡ 5 → ⊥
stops BudgetUsed e = omega arith
stops AtEnd e = omega arith
stops Forbidden e = omega arith
stops Misaligned e = omega arith
stops NoInstruction e = omega arith

module _ (m : Space) (c : Cpu) (s : List ℕ) (q : Option Stop) {d : Cpu} {t : List ℕ} (e : stepped (record { stop = stop_or_completed q; cpu = d }) t ≡ step m c s) (b n : ℕ) (h : n < b) where
  first : run (b - n) m c s ≡ after (stepped (record { stop = stop_or_completed q; cpu = d }) t) (λ f u. run (b - (n + 1)) m f u)
  unfolding run
  first = let w : b - n ≡ suc (b - (n + 1)) = omega arith in rw w (ap (λ (o : Stepped). after o (λ f u. run (b - (n + 1)) m f u)) (sym e))

  pub run_on : q ≡ None → {x : Result} → counted n (run (b - n) m c s) ≡ x → counted (n + 1) (run (b - (n + 1)) m d t) ≡ x
  unfolding onward
  run_on f g =
      sym (counted-twice n 1 (run (b - (n + 1)) m d t))
      ∙ ap (counted n) (sym (first ∙ rw f)) ∙ g

  pub run-stop : {k : Stop} → q ≡ Some k → {x : Result} → counted n (run (b - n) m c s) ≡ x → result (stop_of k) d n t ≡ x
  unfolding onward
  run-stop {k} f g =
      with-count (let w : n ≡ n + 0 = omega arith in w) ∙ ap (counted n) (sym (first ∙ rw (f, ne_eqb (stop_of k) 5 (stops k)))) ∙ g

pub run_out : (m : Space) (c : Cpu) (s : List ℕ) (b n : ℕ) → b ≤ n → n ≤ b → {x : Result} → counted n (run (b - n) m c s) ≡ x → result 0 c b s ≡ x
unfolding run
run_out m c s b n h l g =
    let w : b - n ≡ 0 = omega arith in
    with-count (let v : b ≡ n + 0 = omega arith in v) ∙ ap (counted n) (sym (ap (λ (k : ℕ). run k m c s) w)) ∙ g

pub run-start : (m : Space) (c : Cpu) (s : List ℕ) (b : ℕ) → counted 0 (run (b - 0) m c s) ≡ run b m c s
run-start m c s b = let w : b - 0 ≡ b = omega arith in rw w (with-count (let v : 0 + (run b m c s).count ≡ (run b m c s).count = omega arith in v))
