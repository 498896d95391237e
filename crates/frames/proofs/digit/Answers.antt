-- The table holds the digits. Assumes nothing.
use mathlib.Core.Path.{refl}
use Rattle.objtext.specs.Object.{hex_digit}
use Rattle.frames.proofs.digit.Goals as goal

pub returns : goal.returns
unfolding hex_digit
returns c =
    refl
