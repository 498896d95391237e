-- Of each shape. Assumes nothing.
use native.Mathlib.Omega.{arith}
use Rattle.emit.specs.Codes.{list_of, code_size}
use Rattle.emit.proofs.size.Goals as goal

pub returns-in-None : goal.returns-in-None
unfolding list_of
returns-in-None c =
    (rw c.in-None.is, omega arith)

pub returns-in-One : goal.returns-in-One
unfolding list_of
returns-in-One c =
    (rw (c.in-One.is, ← c.code_size.ensures.0) (omega arith), omega (arith, c.code_size.ensures.1))

pub returns-in-Both : goal.returns-in-Both
unfolding list_of
returns-in-Both c =
    (rw (c.in-Both.is, ← c.code_size-in-Both.ensures.0, ← c.code_size-in-Both-2.ensures.0) (omega arith), omega (arith, c.code_size-in-Both.ensures.1, c.code_size-in-Both-2.ensures.1))

pub returns-in-Head : goal.returns-in-Head
unfolding list_of code_size
returns-in-Head c =
    (rw c.in-Head.is, omega arith)
