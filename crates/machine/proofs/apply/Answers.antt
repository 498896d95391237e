-- `apply` calls the function of the arm that is taken. Assumes nothing.
use Rattle.machine.proofs.apply.Goals as goal

pub returns-in-Load : goal.returns-in-Load
returns-in-Load c =
    rw c.in-Load.is

pub returns-in-Add : goal.returns-in-Add
returns-in-Add c =
    rw c.in-Add.is c.add.ensures

pub returns-in-Subtract : goal.returns-in-Subtract
returns-in-Subtract c =
    rw c.in-Subtract.is c.subtract.ensures

pub returns-in-AddLogical : goal.returns-in-AddLogical
returns-in-AddLogical c =
    rw c.in-AddLogical.is c.add_logical.ensures

pub returns-in-SubtractLogical : goal.returns-in-SubtractLogical
returns-in-SubtractLogical c =
    rw c.in-SubtractLogical.is c.subtract_logical.ensures

pub returns-in-And : goal.returns-in-And
returns-in-And c =
    rw c.in-And.is c.and.ensures

pub returns-in-Or : goal.returns-in-Or
returns-in-Or c =
    rw c.in-Or.is c.or.ensures

pub returns-in-ExclusiveOr : goal.returns-in-ExclusiveOr
returns-in-ExclusiveOr c =
    rw c.in-ExclusiveOr.is c.exclusive_or.ensures

pub returns-in-Compare : goal.returns-in-Compare
returns-in-Compare c =
    rw (c.in-Compare.is, c.compare.ensures)

pub returns-in-Positive : goal.returns-in-Positive
returns-in-Positive c =
    rw c.in-Positive.is c.positive.ensures

pub returns-in-Negative : goal.returns-in-Negative
returns-in-Negative c =
    rw c.in-Negative.is c.negative.ensures

pub returns-in-Complement : goal.returns-in-Complement
returns-in-Complement c =
    rw c.in-Complement.is c.complement.ensures

pub returns-in-MultiplyHalf : goal.returns-in-MultiplyHalf
returns-in-MultiplyHalf c =
    rw (c.in-MultiplyHalf.is, c.half_product.ensures)

pub returns-in-Insert : goal.returns-in-Insert
returns-in-Insert c =
    rw (c.in-Insert.is, c.insert.ensures)

pub returns-in-Test : goal.returns-in-Test
returns-in-Test c =
    rw c.in-Test.is c.test.ensures
