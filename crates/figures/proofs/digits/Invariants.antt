-- `digits` reads digit by digit. The invariant: the whole is what the rest makes after the number so far. Assumes nothing.
use Rattle.figures.specs.Numbers.{digits}
use lib.ListN.{drop}
use mathlib.Core.Path.{◌≡◌}
use Prim.Native.Nat.{◌≤◌}
use Rattle.figures.proofs.digits.Given as goal

abbrev pub invariant-loop-b : goal.invariant-loop-b
invariant-loop-b l =
    (l.v ≤ l.limit) × (digits l.base l.limit 0 l.s ≡ digits l.base l.limit l.v (drop l.b-index l.s))
