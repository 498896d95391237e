-- By the packed meaning; what means no function takes nothing.
use Rattle.base.proofs.Tests.{told}
use Rattle.functions.specs.Arguments.{function_in}
use Rattle.functions.proofs.meant.Goals as goal

pub returns-then-is_function : goal.returns-then-is_function
unfolding function_in
returns-then-is_function c =
    rw (told c.is_function.ensures c.if-is_function.true, ← c.number.ensures.0) c.at_place.ensures

pub returns : goal.returns
unfolding function_in
returns c =
    rw (told c.is_function.ensures c.if-is_function.false)
