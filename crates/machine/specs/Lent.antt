-- The machine's state as the code holds it: registers and storage lent, code and counter as numbers, and a stop where there is one.
use Rattle.std.specs.Prelude.{List, ℕ, Option, Some, None}
use Rattle.machine.specs.declared.Given.{Given}
use Rattle.machine.specs.declared.Next.{Next}
use Rattle.machine.specs.declared.Stop.{Stop}
use Rattle.machine.specs.declared.Stop.TheVariants.{BudgetUsed, AtEnd, Forbidden, Misaligned, NoInstruction}
use Rattle.machine.specs.Step.{Cpu, cpu, Turn, completed}

-- "Stop 0 budget used, 1 at `0A 00`, 2 forbidden operand, 3 misaligned operand, 4 an odd counter, an instruction not wholly in the program's bytes, one not
-- listed, or an odd register field in 1C or 5C."
abbrev pub stop_of : Stop → ℕ
stop_of BudgetUsed = 0
stop_of AtEnd = 1
stop_of Forbidden = 2
stop_of Misaligned = 3
stop_of NoInstruction = 4

-- the number of no stop beside these
abbrev pub stop_or_completed : Option Stop → ℕ
stop_or_completed (Some k) = stop_of k
stop_or_completed None = completed

-- before an instruction, with the registers rs
abbrev pub given : Given → List ℕ → Cpu
given g rs = cpu rs g.code g.at

-- and after it
abbrev pub turn : Next → List ℕ → Turn
turn q rs = record { stop = stop_or_completed q.stop; cpu = cpu rs q.code q.at }

abbrev pub ended : Option Stop → ℕ → ℕ → Next
ended stop k a = record { code = k; at = a; stop = stop }
