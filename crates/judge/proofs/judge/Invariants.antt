-- The loop goes along the tape as the definition's pass does, with the protected registers in the column of offsets; `Going` says what stands after i events.
use Rattle.judge.proofs.Along.{Going}
use lib.ListN.{length}
use mathlib.Core.Path.{◌≡◌}
use Rattle.judge.proofs.judge.Given as goal

abbrev pub invariant-loop-e : goal.invariant-loop-e
invariant-loop-e l =
    Going l.tape l.kinds l.initial.wide l.thin l.initial.least l.wide l.counts l.d l.c l.o l.least l.e-index × ((length l.wide ≡ length l.initial.wide) × (length l.counts ≡ length l.initial.counts))
