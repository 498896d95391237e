-- The first sixteen names are registers', the others functions'.
use borrow.Author.Tests.{lt-ltb, le-ltb}
use Rattle.meanings.specs.Flat.{standard_meaning}
use Rattle.meanings.proofs.standard_meaning.Goals as goal

pub returns-then-n-lt-REGISTER_NAMES : goal.returns-then-n-lt-REGISTER_NAMES
unfolding standard_meaning
returns-then-n-lt-REGISTER_NAMES c =
    rw (lt-ltb _ 16 c.if-n-lt-REGISTER_NAMES.true) c.packed_as.ensures

pub returns : goal.returns
unfolding standard_meaning
returns c =
    rw (le-ltb _ 16 c.if-n-lt-REGISTER_NAMES.false) c.packed_as-2.ensures
