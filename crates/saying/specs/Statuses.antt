-- Exit statuses: of a run, and by their numbers.
use Rattle.std.specs.Prelude.{ℕ, eqb}
use Rattle.base.specs.Choose.{choose}
use Rattle.saying.specs.declared.ExitStatus.{ExitStatus}
use Rattle.saying.specs.declared.ExitStatus.TheVariants.{Done, Refused, Wrong, BudgetUsed, Stopped}

-- "0 accepted, ended, same; 1 refused or different; 2 wrong use, or a file that cannot be read or written; 3 budget used up; 4 stopped by 2, 3 or 4."
abbrev pub code_of : ExitStatus → ℕ
code_of Done = 0
code_of Refused = 1
code_of Wrong = 2
code_of BudgetUsed = 3
code_of Stopped = 4

-- by the number of the run's stop
abbrev pub status_of : ℕ → ExitStatus
status_of stop = choose (eqb stop 1) Done (choose (eqb stop 0) BudgetUsed Stopped)
