-- By the kind of the operator. Assumes nothing.
use Rattle.base.specs.Runs.{run_len}
use Rattle.translation.specs.Instructions.{shift_code}
use Rattle.emit.proofs.shift_code.Goals as goal

pub returns-in-29 : goal.returns-in-29
unfolding shift_code run_len
returns-in-29 c =
    rw c.in-29.is

pub returns-in-30 : goal.returns-in-30
unfolding shift_code run_len
returns-in-30 c =
    rw c.in-30.is

pub returns-in-31 : goal.returns-in-31
unfolding shift_code run_len
returns-in-31 c =
    rw c.in-31.is

pub returns-in-32 : goal.returns-in-32
unfolding shift_code run_len
returns-in-32 c =
    rw c.in-32.is
