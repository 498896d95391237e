-- By the cases of the operand. Assumes nothing.
use mathlib.Core.Path.{refl}
use native.Mathlib.Omega.{arith}
use Rattle.translation.specs.Instructions.{load_row}
use Rattle.emit.specs.Codes.{signed_codes}
use Rattle.emit.proofs.signed.Goals as goal

pub returns-in-Absent : goal.returns-in-Absent
unfolding signed_codes
returns-in-Absent c =
    rw c.in-Absent.is

pub returns-in-Held : goal.returns-in-Held
unfolding signed_codes
returns-in-Held c =
    rw c.in-Held.is

pub returns-in-Number : goal.returns-in-Number
unfolding signed_codes
returns-in-Number c =
    rw c.in-Number.is (c.apply_then.ensures load_row (omega arith, refl))

pub returns-in-Stored : goal.returns-in-Stored
unfolding signed_codes
returns-in-Stored c =
    rw c.in-Stored.is (c.apply_then-in-Stored.ensures load_row (omega arith, refl))
