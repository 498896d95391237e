-- By the cases of the operand. Assumes nothing.
use Rattle.emit.specs.Codes.{amount_in}
use Rattle.emit.proofs.amount.Goals as goal

pub returns-in-Absent : goal.returns-in-Absent
unfolding amount_in
returns-in-Absent c =
    rw c.in-Absent.is

pub returns-in-Held : goal.returns-in-Held
unfolding amount_in
returns-in-Held c =
    rw c.in-Held.is

pub returns-in-Number : goal.returns-in-Number
unfolding amount_in
returns-in-Number c =
    rw c.in-Number.is

pub returns-in-Stored : goal.returns-in-Stored
unfolding amount_in
returns-in-Stored c =
    rw c.in-Stored.is
