-- `shifted` calls the shift of the arm that is taken. Assumes nothing.
use Rattle.machine.proofs.shifted.Goals as goal

pub returns-in-RightLogical : goal.returns-in-RightLogical
returns-in-RightLogical c =
    rw (c.in-RightLogical.is, c.shift_right_logical.ensures)

pub returns-in-LeftLogical : goal.returns-in-LeftLogical
returns-in-LeftLogical c =
    rw (c.in-LeftLogical.is, c.shift_left_logical.ensures)

pub returns-in-Right : goal.returns-in-Right
returns-in-Right c =
    rw c.in-Right.is c.shift_right.ensures

pub returns-in-Left : goal.returns-in-Left
returns-in-Left c =
    rw c.in-Left.is c.shift_left.ensures
