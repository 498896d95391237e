-- `span_along` is the pass. The invariant: the pass over what is left makes the whole, and an event takes so many bytes at most. Assumes nothing.
use Prim.Native.Nat.{◌*◌, ◌≤◌}
use mathlib.Core.Path.{◌≡◌}
use lib.ListN.{drop}
use Rattle.std.specs.Prelude.{None}
use Rattle.tape.specs.Pass.{pass}
use Rattle.emit.specs.Books.{wide_in, thin_in}
use Rattle.emit.specs.Events.{no_writing}
use Rattle.listing.specs.Operands.{spanning_of, span_event}
use Rattle.listing.proofs.span_along.Given as goal

abbrev pub invariant-loop-e : goal.invariant-loop-e
invariant-loop-e l =
    (l.p ≤ 17179869204 * l.e-index)
    × (pass (span_event l.address l.book.kinds.now (wide_in l.book) (thin_in l.book)) (spanning_of l.p l.w l.target l.span) (drop l.e-index l.tape)
    ≡ pass (span_event l.address l.book.kinds.now (wide_in l.book) (thin_in l.book)) (spanning_of 0 no_writing None None) l.tape)
