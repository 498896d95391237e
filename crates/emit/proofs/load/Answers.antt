-- With and without a sign. Assumes nothing.
use mathlib.Core.Path.{refl}
use native.Mathlib.Omega.{arith}
use Rattle.translation.specs.Instructions.{load_row}
use Rattle.emit.specs.Codes.{load_codes}
use Rattle.emit.proofs.load.Goals as goal

pub returns-in-None : goal.returns-in-None
unfolding load_codes
returns-in-None c =
    rw c.in-None.is (c.applied.ensures load_row (omega arith, refl))

pub returns-in-Some : goal.returns-in-Some
unfolding load_codes
returns-in-Some c =
    rw (c.in-Some.is, ← c.sign_code.ensures) c.signed.ensures
