-- `meaning` is what is meant by the declaration that was found. Assumes nothing.
use Rattle.ledger.proofs.meaning.Goals as goal

pub returns : goal.returns
returns c =
    rw (← c.found.ensures.0) c.mean.ensures
