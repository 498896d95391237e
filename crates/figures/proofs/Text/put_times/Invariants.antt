-- `put_times` puts one byte again and again. The invariant: it stands there as often as was counted. Assumes nothing.
use Rattle.figures.specs.Writing.{Puts}
use lib.ListN.{replicate}
use Rattle.figures.proofs.Text.put_times.Given as goal

abbrev pub invariant-loop : goal.invariant-loop
invariant-loop l =
    Puts (replicate l.counter l.b) l.initial.self l.self
