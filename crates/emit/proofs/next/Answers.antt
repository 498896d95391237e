-- By the cases of the target. Assumes nothing.
use Rattle.emit.specs.Codes.{next_codes}
use Rattle.emit.proofs.next.Goals as goal

pub returns-in-Absent : goal.returns-in-Absent
unfolding next_codes
returns-in-Absent c =
    rw c.in-Absent.is

pub returns-in-Held : goal.returns-in-Held
unfolding next_codes
returns-in-Held c =
    rw c.in-Held.is c.term.ensures

pub returns-in-Number : goal.returns-in-Number
unfolding next_codes
returns-in-Number c =
    rw c.in-Number.is

pub returns-in-Stored : goal.returns-in-Stored
unfolding next_codes
returns-in-Stored c =
    rw c.in-Stored.is
