-- A register more in a set of 16 bits. Assumes nothing.
use Rattle.meanings.proofs.Views as views
use Rattle.tables.proofs.Sets.{set_more, set_same, shifted}
use Rattle.meanings.proofs.with_register.Goals as goal

pub returns-then-r-lt16 : goal.returns-then-r-lt16
returns-then-r-lt16 c =
    rw (shifted _ c.if-r-lt16.true) (set_more _ _ c.if-r-lt16.true, views.more-small _ _ c.if-r-lt16.true c.requires)

pub returns : goal.returns
returns c =
    (set_same _ _ c.if-r-lt16.false, c.requires)
