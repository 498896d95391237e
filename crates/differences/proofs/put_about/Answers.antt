-- The place, and what the text is not, piece by piece. Assumes nothing.
use Rattle.figures.proofs.Writing.{then}
use Rattle.differences.proofs.put_about.Goals as goal

pub returns : goal.returns
returns c =
    then (then (then c.put_place.ensures c.put_all.ensures) c.put_all-2.ensures) c.put_all-3.ensures
