-- By the cases of the target. Assumes nothing.
use mathlib.Core.Path.{refl}
use native.Mathlib.Omega.{arith}
use Rattle.translation.specs.Instructions.{store_row}
use Rattle.emit.specs.Codes.{first_codes}
use Rattle.emit.proofs.first.Goals as goal

pub returns-in-Absent : goal.returns-in-Absent
unfolding first_codes
returns-in-Absent c =
    rw c.in-Absent.is

pub returns-in-Held : goal.returns-in-Held
unfolding first_codes
returns-in-Held c =
    rw c.in-Held.is c.load.ensures

pub returns-in-Number : goal.returns-in-Number
unfolding first_codes
returns-in-Number c =
    rw c.in-Number.is

pub returns-in-Stored : goal.returns-in-Stored
unfolding first_codes
returns-in-Stored c =
    rw (c.in-Stored.is, ← c.held.ensures) (c.applied.ensures store_row (omega arith, refl))
