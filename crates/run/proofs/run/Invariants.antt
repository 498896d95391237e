-- `run` is the definition's run. The invariant: the run of what is left of the budget, counted on from the instructions completed, is the whole. Assumes nothing.
use Prim.Native.Nat.{◌-◌}
use mathlib.Core.Path.{◌≡◌}
use lib.ListN.{length}
use Rattle.machine.specs.Run.{counted, run}
use Rattle.machine.specs.Space.{space_by}
use Rattle.machine.specs.Step.{cpu}
use Rattle.run.proofs.run.Given as goal

abbrev pub invariant-loop-count : goal.invariant-loop-count
invariant-loop-count l =
    (length l.s ≡ length l.initial.s)
    × (counted l.count (run (l.budget - l.count) (space_by l.program l.map) (cpu l.regs l.code l.at) l.s) ≡ run l.budget (space_by l.program l.map) (cpu l.initial.regs l.first l.start) l.initial.s)
