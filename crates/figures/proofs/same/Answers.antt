-- `same` compares byte by byte. Assumes nothing.
use Rattle.figures.proofs.Bytes.{same_is}
use Rattle.figures.proofs.same.Goals as goal

pub returns : goal.returns
returns c =
    rw same_is c.eq.ensures
