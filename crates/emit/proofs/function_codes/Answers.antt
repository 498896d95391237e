-- By the cases of the last argument. Assumes nothing.
use Rattle.emit.specs.Codes.{function_codes}
use Rattle.emit.proofs.function_codes.Goals as goal

pub returns-in-Absent : goal.returns-in-Absent
unfolding function_codes
returns-in-Absent c =
    rw c.in-Absent.is

pub returns-in-Held : goal.returns-in-Held
unfolding function_codes
returns-in-Held c =
    rw c.in-Held.is

pub returns-in-Number : goal.returns-in-Number
unfolding function_codes
returns-in-Number c =
    rw (c.in-Number.is, ← c.half.ensures, ← c.half-in-Number.ensures)

pub returns-in-Stored : goal.returns-in-Stored
unfolding function_codes
returns-in-Stored c =
    rw (c.in-Stored.is, ← c.half-in-Stored.ensures, ← c.half-in-Stored-2.ensures)
