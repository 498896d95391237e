-- Why `has` meets its contract.
use mathlib.Core.Path.{sym}
use Rattle.tables.proofs.Sets.{has-set, has-past}
use Rattle.tables.specs.Packed.{has_bit}
use Rattle.tables.proofs.has.Goals as goal

pub returns-then-r-lt16 : goal.returns-then-r-lt16
unfolding has_bit
returns-then-r-lt16 c =
    sym (has-set _ _ c.if-r-lt16.true)

pub returns : goal.returns
returns c =
    sym (has-past _ _ c.if-r-lt16.false)
