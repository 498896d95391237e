-- A long product takes the register below. Assumes nothing.
use Rattle.emit.specs.Codes.{product_register}
use Rattle.base.proofs.Tests.{told}
use Rattle.emit.proofs.product_register.Goals as goal

pub returns-then-is_long : goal.returns-then-is_long
unfolding product_register
returns-then-is_long c =
    rw (told c.is_long.ensures c.if-is_long.true) c.saturating_sub.ensures

pub returns : goal.returns
unfolding product_register
returns c =
    rw (told c.is_long.ensures c.if-is_long.false)
