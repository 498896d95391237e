-- The answer of a run as the code holds it, with the storage that was lent.
use Rattle.std.specs.Prelude.{List, ℕ}
use Rattle.machine.specs.Step.{cpu}
use Rattle.machine.specs.Run.{Result, result}
use Rattle.machine.specs.Lent.{stop_of}
use Rattle.run.specs.declared.Ran.{Ran}

abbrev pub ran : Ran → List ℕ → Result
ran q s = result (stop_of q.stop) (cpu q.regs q.code q.counter) q.count s
