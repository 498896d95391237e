-- `put_filled` puts the number for each `%` and any other byte as it is. Assumes nothing.
use mathlib.Core.Path.{ap}
use Rattle.figures.proofs.Parts.{filled_on}
use Rattle.figures.proofs.Writing.{still, called, then}
use Rattle.figures.specs.Parts.{filled}
use lib.Seq.{take_all}
use Rattle.figures.proofs.Text.put_filled.Goals as goal

pub loop-b-init : goal.loop-b-init
unfolding filled
loop-b-init c =
    still

pub loop-b-preserved : goal.loop-b-preserved
loop-b-preserved c =
    called (filled_on c.args.n c.args.phrase.now c.loop-b.b-index c.loop-b-test.true) (then c.loop-b.invariant c.put_shown.ensures)

pub returns : goal.returns
returns c =
    called (ap (filled c.args.n) (take_all c.loop-b.b-index c.args.phrase.now c.loop-b-test.false)) c.loop-b.invariant
