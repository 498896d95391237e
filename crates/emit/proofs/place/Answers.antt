-- By the declaration that was found. Assumes nothing.
use Rattle.emit.specs.Events.{place_in}
use Rattle.emit.proofs.place.Goals as goal

pub returns : goal.returns
unfolding place_in
returns c =
    rw (
      ← c.meaning.ensures,
      ← c.found.ensures.0,
      ← c.subscript-s.ensures,
      ← c.index-x.ensures,
    )
    c.place_by.ensures
