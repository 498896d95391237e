-- The row of loads has the definition's opcode. Assumes nothing.
use mathlib.Core.Path.{refl}
use native.Mathlib.Omega.{arith}
use Rattle.translation.specs.Instructions.{load_row}
use Rattle.emit.proofs.Tables.{opcode-is}
use Rattle.emit.proofs.base.Goals as goal

pub returns : goal.returns
returns c =
    rw (← (opcode-is load_row _ 1 (omega arith, refl) (omega arith)), ← c.opcode.ensures.0)
