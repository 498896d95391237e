-- Why `number` meets its contract.
use native.Mathlib.Omega.{arith}
use Rattle.tables.specs.Packed.{low, number_in}
use Rattle.tables.proofs.number.Goals as goal

pub returns : goal.returns
unfolding low number_in
returns c =
    omega arith
