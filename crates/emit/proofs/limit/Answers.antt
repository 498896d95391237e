-- A compare, and the exit branch. Assumes nothing.
use mathlib.Core.Path.{refl}
use native.Mathlib.Omega.{arith}
use Rattle.translation.specs.Instructions.{compare_row}
use Rattle.emit.specs.Events.{limit_codes}
use Rattle.emit.proofs.limit.Goals as goal

pub returns : goal.returns
unfolding limit_codes
returns c =
    rw (
      ← c.less.ensures,
      ← c.value.ensures,
      ← c.exit_mask-mask.ensures,
      ← c.held.ensures,
      ← c.less-2.ensures,
      ← c.mark.ensures.0,
      ← c.branch-mask.ensures,
    )
    (c.apply_then.ensures compare_row (omega arith, refl))
