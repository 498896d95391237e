-- By what the event makes, and its size. Assumes nothing.
use native.Mathlib.Omega.{arith}
use Rattle.emit.proofs.passed.Goals as goal

pub overflow_add-at : goal.overflow_add-at
overflow_add-at c =
    omega (arith, c.table_size.ensures.1, c.size.ensures.1)

pub overflow_add-at-2 : goal.overflow_add-at-2
overflow_add-at-2 c =
    omega (arith, c.table_size.ensures.1, c.size.ensures.1, c.requires.1)

pub returns : goal.returns
returns c =
    (rw (c.size.ensures.0, c.table_size.ensures.0, c.event-made.ensures), omega (arith, c.table_size.ensures.1, c.size.ensures.1))
