-- A run: instructions until one stops, at most a budget of them, and the count of those completed.
use Rattle.std.specs.Prelude.{Bool, true, false, List, ℕ, zero, suc, ◌+◌, eqb}
use Rattle.machine.specs.Space.{Space}
use Rattle.machine.specs.Step.{Cpu, Stepped, completed, step}

-- "The result gives stop, counter, registers, code and the count of completed instructions."
pub record Result : Type 0 where
  pub stop : ℕ
  pub cpu : Cpu
  pub count : ℕ
  pub store : List ℕ

abbrev pub result : ℕ → Cpu → ℕ → List ℕ → Result
result k c n s = record { stop = k; cpu = c; count = n; store = s }

-- the result with n instructions completed before
abbrev pub counted : ℕ → Result → Result
counted n r = result r.stop r.cpu (n + r.count) r.store

-- after an instruction: what comes next where it was completed, and else the end
unfoldable pub onward : Bool → Stepped → (Cpu → List ℕ → Result) → Result
onward true o next = counted 1 (next o.turn.cpu o.store)
onward false o next = result o.turn.stop o.turn.cpu 0 o.store

abbrev pub after : Stepped → (Cpu → List ℕ → Result) → Result
after o next = onward (eqb o.turn.stop completed) o next

-- "Stop 0 budget used": with none left nothing is looked at
abbrev pub budget_used : ℕ
budget_used = 0

unfoldable pub run : ℕ → Space → Cpu → List ℕ → Result
run zero m c s = result budget_used c 0 s
run (suc n) m c s = after (step m c s) (λ d t. run n m d t)
