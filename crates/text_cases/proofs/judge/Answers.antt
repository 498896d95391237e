-- `judge` says number and spot of the verdict, arm by arm. Assumes nothing.
use mathlib.Core.Path.{sym, ap, ◌∙◌}
use Rattle.std.specs.Prelude.{Err}
use Rattle.parse.specs.Programs.{verdict_of}
use Rattle.text_cases.proofs.judge.Goals as goal

pub returns-in-Ok : goal.returns-in-Ok
returns-in-Ok c =
    rw c.unplaced.ensures c.in-Ok.ensures

pub returns-in-TooLong : goal.returns-in-TooLong
returns-in-TooLong c =
    rw c.unplaced-in-TooLong.ensures (rw c.in-TooLong.is at c.in-Err.ensures)

pub returns-in-NoToken : goal.returns-in-NoToken
returns-in-NoToken c =
    rw c.in-NoToken.is at c.in-Err.ensures

pub returns-in-OutOfRange : goal.returns-in-OutOfRange
returns-in-OutOfRange c =
    rw c.in-OutOfRange.is at c.in-Err.ensures

pub returns-in-Unexpected : goal.returns-in-Unexpected
returns-in-Unexpected c =
    rw c.in-Unexpected.is at c.in-Err.ensures

pub returns-in-TooDeep : goal.returns-in-TooDeep
returns-in-TooDeep c =
    rw c.in-TooDeep.is at c.in-Err.ensures
