-- A compare, and the branch on false. Assumes nothing.
use mathlib.Core.Path.{refl}
use native.Mathlib.Omega.{arith}
use Rattle.translation.specs.Instructions.{compare_row}
use Rattle.emit.specs.Events.{compared_codes}
use Rattle.emit.proofs.compared.Goals as goal

pub returns : goal.returns
unfolding compared_codes
returns c =
    rw (
      ← c.less.ensures,
      ← c.kind.ensures,
      ← c.false_mask-mask.ensures.0,
      ← c.less-2.ensures,
      ← c.mark.ensures.0,
      ← c.branch-mask.ensures,
    )
    (c.apply_then.ensures compare_row (omega arith, refl))
