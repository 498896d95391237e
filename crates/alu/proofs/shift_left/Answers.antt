-- `shift_left` keeps the sign and judges the exact product by its distance from zero. Assumes nothing.
use Rattle.std.proofs.Common.{rules}
use Rattle.alu.proofs.Shifts.{shl-room, lefts}
use Rattle.alu.proofs.shift_left.Goals as goal

pub returns-then-a-eq0 : goal.returns-then-a-eq0
returns-then-a-eq0 c =
    search (lefts, rules)

pub returns-then-a-lt-TOP : goal.returns-then-a-lt-TOP
returns-then-a-lt-TOP c =
    search (lefts, rules)

pub returns-then-n-ge32 : goal.returns-then-n-ge32
returns-then-n-ge32 c =
    search (lefts, rules)

pub overflow_add-w : goal.overflow_add-w
overflow_add-w c =
    record { fits = shl-room _ _ (search rules) (search rules) }

pub returns-then-a-lt-TOP-2 : goal.returns-then-a-lt-TOP-2
returns-then-a-lt-TOP-2 c =
    search (lefts, rules)

pub returns-then-w-gt2147483648 : goal.returns-then-w-gt2147483648
returns-then-w-gt2147483648 c =
    search (lefts, rules)

pub returns : goal.returns
returns c =
    search (lefts, rules)
