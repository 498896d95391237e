-- `store` lays the low bytes of a number, the last first. The invariant: laying what is left completes the whole. Assumes nothing.
use Rattle.std.proofs.Common.{◌≡◌}
use Rattle.base.specs.Numbers.{stored}
use Rattle.base.proofs.store.Given as goal

abbrev pub invariant-loop-i : goal.invariant-loop-i
invariant-loop-i l =
    stored l.s l.at l.i l.rest ≡ stored l.initial.s l.at l.n l.v
