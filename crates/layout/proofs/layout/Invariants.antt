-- `layout` is the pass. The invariant `Going`: the pass over what is left makes the whole, and what it reads stays. Assumes nothing.
use Rattle.layout.proofs.Along.{Going}
use Rattle.layout.specs.Along.{book_in}
use Rattle.scopes.specs.Broken.{unbroken}
use lib.ListN.{length}
use mathlib.Core.Path.{◌≡◌}
use Rattle.layout.proofs.layout.Given as goal

abbrev pub invariant-loop-e : goal.invariant-loop-e
invariant-loop-e l =
    Going l.tape (book_in l.initial.wide l.initial.thin unbroken) (book_in l.wide l.thin l.broken) l.e-index × (length l.wide ≡ length l.initial.wide) × (length l.thin ≡ length l.initial.thin)
