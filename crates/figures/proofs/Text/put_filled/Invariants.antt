-- `put_filled` puts the number for each `%` and any other byte as it is. The invariant: what was passed is added, filled. Assumes nothing.
use Rattle.figures.specs.Parts.{filled}
use Rattle.figures.specs.Writing.{Puts}
use lib.ListN.{take}
use Rattle.figures.proofs.Text.put_filled.Given as goal

abbrev pub invariant-loop-b : goal.invariant-loop-b
invariant-loop-b l =
    Puts (filled l.n (take l.b-index l.phrase)) l.initial.self l.self
