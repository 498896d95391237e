-- What an accepted program can do. A source is accepted with an object text; the object text is given to the runner with anything in registers 0 to 13, any
-- condition code and storage enough, for any number of instructions. Each statement is of the runner's answer, by the instructions and the layout of the
-- translation (`instructions_of`, `layout_of`, `placed_of`), and is proved by citation.
use mathlib.Core.Path.{◌≡◌}
use mathlib.Core.Logic.{◌⊎◌}
use mathlib.Core.List.{List}
use mathlib.Core.Option.{some}
use Prim.Native.Nat.{ℕ, ◌+◌, ◌≤◌, ◌<◌}
use lib.ListN.{length, get_or}
use Rattle.base.specs.Lists.{◌∈◌, All}
use Rattle.machine.specs.Space.{origin, needed}
use Rattle.machine.specs.Step.{at_end, no_instruction}
use Rattle.machine.specs.Run.{budget_used}
use Rattle.runner.specs.Load.{loaded}
use Rattle.runner.specs.Runner.{runner}
use Rattle.translation.specs.Instructions.{Instruction, indexed, stop}
use Rattle.translation.specs.Translate.{accepted, translated, translate}
use Rattle.translation.proofs.Answers.{fits-room, acceptance}
use Rattle.join.specs.Writes.{writes}
use Rattle.join.specs.Points.{Within, Placed}
use Rattle.join.specs.Operands.{Named, Indexed}
use Rattle.join.specs.Programs.{tokens_in, tree_of, instructions_of, layout_of, segments_of, placed_of, state_of, At, Fixed, Stops, CalledFrom, Meets}
use Rattle.join.proofs.Reached.{Sound, Program}
use Rattle.join.proofs.Answered as By

module _ (source object : List ℕ) (room : ℕ) (accepts : translate source room ≡ accepted object) where
  program : Program (tokens_in source) (tree_of source) object
  unfolding translate
  program = By.accepted-program source object (acceptance source object (fits-room (translated source) room object accepts).0)

  module _ (regs : List ℕ) (sixteen : length regs ≡ 16) (code : ℕ) (valid : code ≤ 3) (budget : ℕ) (s : List ℕ) (enough : needed ≤ length s) where
    sound : Sound (placed_of source) (instructions_of source) (layout_of source) (loaded (segments_of source) s) (state_of (runner object regs code budget s))
        (runner object regs code budget s).store budget (runner object regs code budget s).stop (runner object regs code budget s).count
    sound = By.sound-answer source object program regs sixteen code valid budget s enough

    -- the runner takes the object text, and runs it
    pub it-runs : (runner object regs code budget s).number ≡ 0
    it-runs = By.is-run source object program regs sixteen code valid budget s enough

    -- ── the four clauses ──

    -- "it is always at the start of an instruction that was written"
    pub always-at-an-instruction : (i : ℕ) × At (instructions_of source) (runner object regs code budget s).counter i
    always-at-an-instruction = (sound.number, sound.at)

    -- "every unindexed operand lies wholly, for its whole width, in the cell, literal or table entry that the text names (and every branch goes to the instruction
    -- that the text means)"; of LA, which touches no storage, the unindexed address lies in the cell that the text names
    pub every-operand-is-named : (i : ℕ) → At (instructions_of source) (runner object regs code budget s).counter i
        → Named (layout_of source) 0 (state_of (runner object regs code budget s)) (runner object regs code budget s).store (get_or (instructions_of source) i stop)
    every-operand-is-named = sound.named

    -- "program, literals and segment table never change": each of their bytes is as it was loaded
    pub program-never-changes : (a : ℕ) → Fixed (instructions_of source) (layout_of source) a
        → get_or (runner object regs code budget s).store a 0 ≡ get_or (loaded (segments_of source) s) a 0
    program-never-changes = sound.fixed

    -- "it stops only at its final instruction, when the count given is used up, or at an indexed operand that the storage map forbids or that is misaligned"
    pub stops-only-so : (i : ℕ) → At (instructions_of source) (runner object regs code budget s).counter i
        → Stops (instructions_of source) budget i (runner object regs code budget s).stop (runner object regs code budget s).count
    stops-only-so = sound.stops

    -- ── beside them ──

    -- registers 14 and 15 hold their origins throughout
    pub bases-hold-their-origins : (get_or (runner object regs code budget s).regs 14 0 ≡ origin 1) × (get_or (runner object regs code budget s).regs 15 0 ≡ origin 0)
    bases-hold-their-origins = sound.bases

    -- inside a procedure body its return register holds the address after a call of it
    pub return-register-holds : (y : Placed) → y ∈ placed_of source → (runner object regs code budget s).counter ≡ origin y.segment + y.at
        → (v : Within) → y.point.within ≡ some v → CalledFrom (placed_of source) v (get_or (runner object regs code budget s).regs v.return 0)
    return-register-holds = sound.called

    -- document 02, 3/13: "`47 Fr` indexed by r at four bytes before the branch table; the table, one always-branch each". Wherever a run comes to this branch, the one whose
    -- goal is in a register, the register holds 4·k with k from 1 to the count of its CASE; the address formed is that of the k-th entry of its own table, behind it; and
    -- there stands an always-branch to the start of the k-th statement. This comes from the two tests before it, past which nothing jumps
    pub case-branch-meets-its-table : (y : Placed) → y ∈ placed_of source → (runner object regs code budget s).counter ≡ origin y.segment + y.at
        → (r t : ℕ) → y.instruction ≡ indexed r t → Meets (placed_of source) (state_of (runner object regs code budget s)) (runner object regs code budget s).store y r
    case-branch-meets-its-table = sound.chosen

    -- no run of an accepted program ends with stop 4
    pub never-stops-by-4 : (runner object regs code budget s).stop ≡ no_instruction → ⊥
    never-stops-by-4 = By.never-four source object program regs sixteen code valid budget s enough

    -- a program with no indexed operand stops only by 0 or 1
    pub unindexed-stops-by-0-or-1 : All (λ (i : Instruction). Indexed i → ⊥) (instructions_of source)
        → ((runner object regs code budget s).stop ≡ budget_used) ⊎ ((runner object regs code budget s).stop ≡ at_end)
    unindexed-stops-by-0-or-1 = By.unindexed-stops source object program regs sixteen code valid budget s enough

    -- a register that no part of the text writes keeps its value
    pub unwritten-register-stays : (q : ℕ) → q < 14 → All (λ (i : Instruction). q ∈ writes i → ⊥) (instructions_of source)
        → get_or (runner object regs code budget s).regs q 0 ≡ get_or regs q 0
    unwritten-register-stays = By.unwritten-stays source object program regs sixteen code valid budget s enough
