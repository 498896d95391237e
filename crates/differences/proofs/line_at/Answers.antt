-- The newlines in what is common. Assumes nothing.
use mathlib.Core.Path.{ap}
use native.Mathlib.Omega.{arith}
use lib.ListN.{length, length-take}
use Rattle.differences.proofs.line_at.Goals as goal

pub returns : goal.returns
returns c = (
  rw (c.part_count.ensures.0, c.front.ensures, c.common.ensures.value),
  omega (
    arith,
    c.part_count.ensures.1,
    ap length c.front.ensures,
    length-take c.common.result c.args.made.now,
  ),
)
