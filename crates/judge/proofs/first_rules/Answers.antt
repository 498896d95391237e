-- The first operand is judged by the target: nothing, a cell, or a register.
use Rattle.judge.specs.Along.{first_rules}
use Rattle.judge.proofs.first_rules.Goals as goal

pub returns-in-Unfit : goal.returns-in-Unfit
unfolding first_rules
returns-in-Unfit c =
    λ f s. rw c.in-Unfit.is

pub returns-in-Cell : goal.returns-in-Cell
unfolding first_rules
returns-in-Cell c =
    λ f s. rw c.in-Cell.is (c.only_register.ensures f s)

pub returns-in-Register : goal.returns-in-Register
unfolding first_rules
returns-in-Register c =
    λ f s. rw c.in-Register.is (c.operand_rules.ensures f s)
