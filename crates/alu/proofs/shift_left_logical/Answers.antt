-- `shift_left_logical` leaves nothing from 32 on, and shifts exactly below. Assumes nothing.
use Rattle.std.proofs.Common.{rules}
use Rattle.alu.proofs.Shifts.{left-gone, left-stays}
use Rattle.alu.proofs.shift_left_logical.Goals as goal

pub returns-then-n-ge32 : goal.returns-then-n-ge32
returns-then-n-ge32 c =
    search (left-gone, left-stays, rules)
