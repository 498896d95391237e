-- By the cases of the instruction. Assumes nothing.
use mathlib.Core.Path.{refl}
use native.Mathlib.Omega.{arith}
use Rattle.emit.specs.Codes.{code_size}
use Rattle.emit.proofs.code_size.Goals as goal

pub returns-in-Two : goal.returns-in-Two
unfolding code_size
returns-in-Two c =
    rw c.in-Two.is (refl, omega arith)

pub returns-in-Four : goal.returns-in-Four
unfolding code_size
returns-in-Four c =
    rw c.in-Four.is (refl, omega arith)

pub returns-in-Literal : goal.returns-in-Literal
unfolding code_size
returns-in-Literal c =
    rw c.in-Literal.is (refl, omega arith)
