use Rattle.std.proofs.Common.{rules}
use Rattle.base.proofs.Walk.{fold-turn, fold_end}
use Rattle.lines.specs.Checksum.{mixed, checksum}
use Rattle.lines.proofs.checksum.checksum.Goals as goal

pub loop-b-init : goal.loop-b-init
unfolding checksum
loop-b-init c = search rules

pub loop-b-preserved : goal.loop-b-preserved
loop-b-preserved c =
    rw c.times_prime-h.ensures (fold-turn mixed c.loop-b.h c.args.s.now c.loop-b.b-index 0 (search rules) c.loop-b.invariant)

pub returns : goal.returns
returns c =
    fold_end mixed c.loop-b.h c.args.s.now c.loop-b.b-index (search rules) c.loop-b.invariant
