-- `round_up` is the next multiple, less than a size further. Assumes nothing.
use mathlib.Core.Path.{refl}
use native.Mathlib.Omega.{arith}
use Rattle.layout.proofs.Along.{round_room}
use Rattle.layout.proofs.round_up.Goals as goal

pub overflow_mul-result : goal.overflow_mul-result
overflow_mul-result c =
    omega (arith, round_room c.args.z c.args.n c.requires.0 c.requires.1)

pub returns : goal.returns
returns c =
    (refl, round_room c.args.z c.args.n c.requires.0 c.requires.1)
