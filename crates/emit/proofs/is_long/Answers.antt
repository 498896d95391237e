-- By the cases of the operand. Assumes nothing.
use mathlib.Core.Path.{◌≡◌, refl}
use denote.Enum.Bare.{sameb}
use Rattle.tables.specs.declared.Width.{Width}
use Rattle.tables.specs.declared.Width.TheVariants.{Full, Short, Byte, Character}
use Rattle.tables.specs.contracts.Width as W
use Rattle.emit.specs.Codes.{is_full, is_long_use}
use Rattle.emit.proofs.is_long.Goals as goal

full_is : (w : Width) → sameb W.the_type w Full ≡ is_full w
full_is Full = refl
full_is Short = refl
full_is Byte = refl
full_is Character = refl

pub returns-in-Absent : goal.returns-in-Absent
unfolding is_long_use
returns-in-Absent c =
    rw c.in-Absent.is

pub returns-in-Held : goal.returns-in-Held
unfolding is_long_use
returns-in-Held c =
    rw c.in-Held.is

pub returns-in-Number : goal.returns-in-Number
unfolding is_long_use
returns-in-Number c =
    rw c.in-Number.is

pub returns-in-Stored : goal.returns-in-Stored
unfolding is_long_use
returns-in-Stored c =
    rw (c.in-Stored.is, ← (full_is c.in-Stored.width)) c.eq.ensures
