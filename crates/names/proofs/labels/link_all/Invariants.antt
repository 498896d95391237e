-- `link_all` passes over the tape. The invariant: the pass over what is left gives what the whole pass gives. Assumes nothing.
use Rattle.names.proofs.labels.Along.{Linked}
use Rattle.names.proofs.labels.link_all.Given as goal

abbrev pub invariant-loop-e : goal.invariant-loop-e
invariant-loop-e l =
    Linked l.tape l.initial.thin l.thin l.block l.e-index
