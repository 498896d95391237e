-- The six instructions are the definition's, by computation. Assumes nothing.
use mathlib.Core.Path.{refl}
use Rattle.base.specs.Runs.{run_len}
use Rattle.emit.specs.Codes.{list_of}
use Rattle.translation.specs.Instructions.{opcode, shift_code}
use Rattle.emit.proofs.head.Goals as goal

pub returns : goal.returns
unfolding list_of opcode shift_code run_len
returns c =
    refl
