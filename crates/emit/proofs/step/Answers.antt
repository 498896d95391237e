-- The step is added, then the compare comes again. Assumes nothing.
use mathlib.Core.Path.{refl}
use native.Mathlib.Omega.{arith}
use Rattle.translation.specs.Instructions.{add_row}
use Rattle.emit.specs.Events.{step_codes}
use Rattle.emit.proofs.step.Goals as goal

pub returns : goal.returns
unfolding step_codes
returns c =
    rw (
      ← c.mark-r.ensures.0,
      ← c.value.ensures,
      ← c.mark.ensures.0,
      ← c.branch-mark.ensures,
    )
    (c.apply_then.ensures add_row (omega arith, refl))
