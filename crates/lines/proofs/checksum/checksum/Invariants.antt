-- `checksum` folds the bytes. The invariant: the sum of the whole is that of the rest from the sum so far. Assumes nothing.
use Rattle.std.proofs.Common.{◌≡◌, drop}
use Rattle.base.specs.Walk.{fold}
use Rattle.lines.specs.Checksum.{mixed, checksum}
use Rattle.lines.proofs.checksum.checksum.Given as goal

abbrev pub invariant-loop-b : goal.invariant-loop-b
invariant-loop-b l = fold mixed l.h (drop l.b-index l.s) ≡ checksum l.s
