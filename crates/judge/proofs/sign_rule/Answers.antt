-- A sign is refused where the target is a cell.
use Rattle.judge.specs.Along.{sign_rule}
use Rattle.judge.proofs.sign_rule.Goals as goal

pub returns-in-Cell : goal.returns-in-Cell
unfolding sign_rule
returns-in-Cell c =
    rw c.in-Cell.is c.at.ensures

pub returns-in-Unfit : goal.returns-in-Unfit
unfolding sign_rule
returns-in-Unfit c =
    rw c.in-Unfit.is

pub returns-in-Register : goal.returns-in-Register
unfolding sign_rule
returns-in-Register c =
    rw c.in-Register.is
