-- `put_all` puts a piece byte by byte. The invariant: what was passed of it is added. Assumes nothing.
use Rattle.figures.specs.Writing.{Puts}
use lib.ListN.{take}
use Rattle.figures.proofs.Text.put_all.Given as goal

abbrev pub invariant-loop-b : goal.invariant-loop-b
invariant-loop-b l =
    Puts (take l.b-index l.piece) l.initial.self l.self
