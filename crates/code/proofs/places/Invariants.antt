-- `places` is the pass. The invariant: the pass over what is left makes the whole, the other columns are as they were, and an event takes so many bytes at most. Assumes nothing.
use Rattle.code.proofs.Placing.{Same}
use Rattle.code.specs.Places.{placing_of, place_step, places_in}
use Rattle.emit.specs.Along.{most_bytes}
use Rattle.ledger.specs.Book.{wide_of, thin_of}
use Rattle.tape.specs.Pass.{pass}
use lib.ListN.{length, drop}
use mathlib.Core.Path.{◌≡◌}
use Prim.Native.Nat.{◌≤◌, ◌*◌}
use Rattle.code.proofs.places.Given as goal

abbrev pub invariant-loop-e : goal.invariant-loop-e
invariant-loop-e l =
    (l.e-index ≤ length l.tape) × (l.p ≤ most_bytes * l.e-index) × (length l.thin ≡ length l.initial.thin) × Same (thin_of l.initial.thin) (thin_of l.thin)
    × (pass (place_step l.kinds (wide_of l.wide) (thin_of l.initial.thin)) (placing_of l.p l.w (thin_of l.thin).written) (drop l.e-index l.tape) ≡ places_in l.kinds (wide_of l.wide) (thin_of l.initial.thin) l.tape)
