-- `label_all` passes over the tape. The invariant: the pass over what is left gives what the whole pass gives. Assumes nothing.
use Rattle.names.proofs.labels.Along.{Binding}
use Rattle.ledger.specs.Book.{wide_of}
use Rattle.names.proofs.labels.label_all.Given as goal

abbrev pub invariant-loop-e : goal.invariant-loop-e
invariant-loop-e l =
    Binding l.tape (wide_of l.wide).values l.initial.thin l.thin l.block l.n l.e-index
