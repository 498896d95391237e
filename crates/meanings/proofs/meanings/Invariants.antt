-- `meanings` passes over the tape. The invariant: the pass over what is left gives what the whole pass gives, and the stacks are as deep as the tape nests. Assumes nothing.
use Rattle.meanings.specs.Flat.{view_of}
use Rattle.ledger.specs.Book.{wide_of, thin_of}
use Rattle.meanings.proofs.Along.{Going, Same}
use Rattle.meanings.proofs.meanings.Given as goal

abbrev pub invariant-loop-e : goal.invariant-loop-e
invariant-loop-e l =
    Going l.tape l.kinds (view_of (wide_of l.initial.wide) (thin_of l.initial.thin) 0) (wide_of l.wide) (thin_of l.thin) l.owners l.outer l.s l.form l.target l.first l.bases l.e-index × Same l.initial.wide l.initial.thin l.initial.owners l.initial.outer l.wide l.thin l.owners l.outer
