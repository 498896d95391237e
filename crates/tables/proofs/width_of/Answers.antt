-- Why `width` meets its contract.
use native.Mathlib.Omega.{arith}
use Rattle.tables.specs.Packed.{width_number_in}
use Rattle.tables.proofs.width_of.Goals as goal

pub returns : goal.returns
unfolding width_number_in
returns c =
    omega arith
