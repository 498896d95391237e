-- `put_first` puts the place and the headline. Assumes nothing.
use Rattle.figures.proofs.Writing.{called, then}
use Rattle.messages.proofs.put_first.Goals as goal

pub returns : goal.returns
returns c =
    called (rw (c.headline_at-k.ensures, c.figure_at-n.ensures)) (then c.put_place.ensures c.put_head.ensures)
