-- Why `packed` meets its contract.
use native.Mathlib.Omega.{arith}
use Rattle.tables.specs.Packed.{low, packed}
use Rattle.tables.proofs.packed.Goals as goal

pub returns : goal.returns
unfolding low packed
returns c =
    omega arith
