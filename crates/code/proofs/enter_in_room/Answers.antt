-- A full room stays as it is. Assumes nothing.
use mathlib.Core.Path.{refl}
use native.Mathlib.Omega.{arith}
use Rattle.code.proofs.enter_in_room.Goals as goal

pub returns-then-count-literals : goal.returns-then-count-literals
returns-then-count-literals c =
    let e = c.enter.ensures in
    (λ h. (e.0, e.1), λ q. absurd (omega (arith, q, c.if-count-literals.true)), e.2)

pub returns : goal.returns
returns c =
    (λ h. absurd (omega (arith, h, c.if-count-literals.false)), λ q. refl, omega arith)
