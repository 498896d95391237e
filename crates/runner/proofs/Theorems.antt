-- What a reader of document 01's section "Runner" may rely on, sentence by sentence: over the definitions `runner`, `run` and `step`, each proved by citation.
-- Assumes nothing.
use Prim.Native.Nat.{ℕ, suc, ◌/◌, ◌%◌, ◌^◌, ◌<◌, ◌≤◌}
use mathlib.Core.Path.{◌≡◌, refl}
use mathlib.Core.Bool.{false}
use mathlib.Core.List.{List}
use mathlib.Core.Logic.{◌↔◌}
use native.Mathlib.Omega.{arith}
use Rattle.std.specs.Prelude.{Result, Err}
use lib.ListN.{length, get_or}
use Rattle.objtext.specs.Object.{Segment, Object, object_text}
use Rattle.machine.specs.Space.{Space, room, needed, writable}
use Rattle.machine.specs.Step.{Cpu, completed, address, link, step}
use Rattle.machine.specs.Run.{result, counted, run}
use Rattle.machine.proofs.Outside.{run-keeps}
use Rattle.run.specs.declared.Ran.{Ran}
use Rattle.runner.specs.declared.Refusal.{Refusal}
use Rattle.runner.specs.Load.{loaded, space_of, started}
use Rattle.runner.specs.Runner.{refused, accepted, runner, outcome}
use Rattle.runner.specs.Stops.{is_none, is_end, is_misaligned, is_forbidden, first_of, reached}
use Rattle.runner.proofs.Refusals.{verdicts, answer-told, handed-back}
use Rattle.runner.proofs.Stopping.{first-cause, stops-run, counts-on, Counts, run-counts, reached-24}

-- a text that is exactly of the form
abbrev Formed : List ℕ → Type 0
Formed text = (gs : List Segment) × Object gs × (object_text gs ≡ text)

module _ (text regs : List ℕ) (k budget : ℕ) (s : List ℕ) where
  -- "Refusals, in order, …: 17 text not exactly of the form above …; 18 code over 3; 19 storage under 20,480 bytes"
  pub refusal-17 : (runner text regs k budget s).number ≡ 17 ↔ (Formed text → ⊥)
  refusal-17 = (verdicts text regs k budget s).seventeen

  pub refusal-18 : (runner text regs k budget s).number ≡ 18 ↔ Formed text × (3 < k)
  refusal-18 = (verdicts text regs k budget s).eighteen

  pub refusal-19 : (runner text regs k budget s).number ≡ 19 ↔ Formed text × (k ≤ 3) × (length s < needed)
  refusal-19 = (verdicts text regs k budget s).nineteen

  -- "place 0, storage untouched, registers and code as given, stop, counter and count 0"
  pub refusal-leaves : ((runner text regs k budget s).number ≡ 0 → ⊥) → runner text regs k budget s ≡ refused (runner text regs k budget s).number regs k s
  refusal-leaves = (verdicts text regs k budget s).leaves

  -- and else the run of what is loaded
  pub runs : (gs : List Segment) → Object gs → object_text gs ≡ text → k ≤ 3 → needed ≤ length s
      → runner text regs k budget s ≡ accepted (run budget (space_of gs) (started regs k) (loaded gs s))
  runs = (verdicts text regs k budget s).ran

-- no second answer fits: two answers that say the same in the paper's numbers are the same answer, with the same storage, and a refusal hands back the same
-- registers and the same code
pub one_answer : (a b : Result Ran Refusal) (regs rs : List ℕ) (k j : ℕ) (s t : List ℕ) → outcome a regs k s ≡ outcome b rs j t
    → (a ≡ b) × (s ≡ t) × ((r : Refusal) → a ≡ Err r → (regs ≡ rs) × (k ≡ j))
one_answer a b regs rs k j s t e =
    let told = answer-told a b regs rs k j s t e in
    (told.0, told.1, handed-back a b regs rs k j s t e told.0)

module _ (m : Space) (c : Cpu) (s : List ℕ) where
  -- "Several at once: 0 first, then 4, 1, 3, 2."
  pub zero-first : run 0 m c s ≡ result 0 c 0 s
  unfolding run
  zero-first = refl

  pub then-4-1-3-2 : (step m c s).turn.stop ≡ first_of (is_none m c s) (is_end c s) (is_misaligned c s) (is_forbidden m c s)
  then-4-1-3-2 = first-cause m c s

  -- "A stopped instruction changes nothing and is not counted."
  pub stopped : (n : ℕ) → ((step m c s).turn.stop ≡ completed → ⊥) → run (suc n) m c s ≡ result (step m c s).turn.stop c 0 s
  stopped n = stops-run n m c s

  pub completed-counts : (n : ℕ) → (step m c s).turn.stop ≡ completed → run (suc n) m c s ≡ counted 1 (run n m (step m c s).turn.cpu (step m c s).store)
  completed-counts n = counts-on n m c s

  -- "the count of completed instructions": the answer is the state after so many instructions, each of them completed; the budget is used, or the next one stops
  pub count : (n : ℕ) → Counts n m c s (run n m c s)
  count n = run-counts n m c s

  -- "Addresses keep 24 bits": operands', and the counter's in every state that is reached
  pub counter-24 : (n : ℕ) → m.program ≤ room → c.counter < 2 ^ 24 → (reached n m c s).cpu.counter < 2 ^ 24
  counter-24 n p h = reached-24 n m c s p h

  -- "what is stored in its writable part": every other byte stays
  pub stored-inside : (n a : ℕ) → writable m a 1 ≡ false → get_or (run n m c s).store a 0 ≡ get_or s a 0
  stored-inside n a h = (run-keeps n m c s).kept a h

pub address-24 : (regs : List ℕ) (x b d : ℕ) → address regs x b d < 2 ^ 24
address-24 regs x b d = omega arith

-- "45 leaves length code, condition code, mask and address in the link": 2, the code, "program mask zero", and the next instruction's address
pub link-fields : (k next : ℕ) → k ≤ 3 → next < 2 ^ 24 → (link k next / 2 ^ 30 ≡ 2) × (link k next / 2 ^ 28 % 4 ≡ k) × (link k next / 2 ^ 24 % 16 ≡ 0) × (link k next % 2 ^ 24 ≡ next)
link-fields k next h l = omega arith
