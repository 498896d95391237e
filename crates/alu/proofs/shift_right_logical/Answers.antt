-- `shift_right_logical` fits, since a quotient does. Assumes nothing.
use Rattle.std.proofs.Common.{rules}
use Rattle.alu.proofs.Shifts.{shr-fits}
use Rattle.alu.proofs.shift_right_logical.Goals as goal

pub overflow_cast-result-3 : goal.overflow_cast-result-3
overflow_cast-result-3 c =
    record { fits = shr-fits _ _ (search rules) }
