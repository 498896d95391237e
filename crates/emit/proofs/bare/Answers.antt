-- A branch on false. Assumes nothing.
use Rattle.emit.specs.Events.{bare_codes}
use Rattle.emit.proofs.bare.Goals as goal

pub returns : goal.returns
unfolding bare_codes
returns c =
    rw (
      ← c.kind.ensures,
      ← c.false_mask-mask.ensures.0,
      ← c.less.ensures,
      ← c.mark.ensures.0,
      ← c.branch-mask.ensures,
    )
