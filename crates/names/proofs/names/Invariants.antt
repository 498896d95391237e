-- `names` passes over the tape. The invariant: the pass over what is left gives what the whole pass gives; each event opens one block and enters one name at most, so there is room. Assumes nothing.
use Rattle.names.proofs.Along.{Going}
use Rattle.ledger.specs.Book.{wide_of}
use Rattle.names.proofs.names.Given as goal

abbrev pub invariant-loop-e : goal.invariant-loop-e
invariant-loop-e l =
    Going l.tape (wide_of l.wide).values l.initial.thin l.thin l.b l.n l.e-index
