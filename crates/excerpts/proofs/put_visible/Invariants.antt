-- `put_visible` puts each byte as it is shown. The invariant: what was passed is added, made visible. Assumes nothing.
use Rattle.excerpts.specs.Lines.{visibles}
use Rattle.figures.specs.Writing.{Puts}
use lib.ListN.{take}
use Rattle.excerpts.proofs.put_visible.Given as goal

abbrev pub invariant-loop-b : goal.invariant-loop-b
invariant-loop-b l = Puts (visibles (take l.b-index l.line)) l.initial.text l.text
