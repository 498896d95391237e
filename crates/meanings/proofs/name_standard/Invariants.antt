-- Tokens 1 to 25 mean the registers and the functions. The invariant: the first n are named. Assumes nothing.
use mathlib.Core.Path.{◌≡◌}
use Rattle.ledger.specs.Book.{wide_of}
use Rattle.meanings.specs.Flat.{named_to}
use lib.ListN.{length}
use Rattle.meanings.proofs.name_standard.Given as goal

abbrev pub invariant-loop-n : goal.invariant-loop-n
invariant-loop-n l =
    (wide_of l.wide ≡ named_to l.n (wide_of l.initial.wide)) × (length l.wide ≡ length l.initial.wide)
