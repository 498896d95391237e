-- `fill` is the pass. The invariant: the pass over what is left makes the whole. Assumes nothing.
use Rattle.layout.specs.Along.{imaging_of, nowhere, image_in}
use Rattle.tape.specs.Pass.{pass}
use Rattle.ledger.specs.Book.{wide_of}
use lib.ListN.{length, drop}
use mathlib.Core.Path.{◌≡◌}
use Prim.Native.Nat.{◌≤◌}
use Rattle.layout.proofs.fill.Given as goal

abbrev pub invariant-loop-e : goal.invariant-loop-e
invariant-loop-e l =
    let step = image_in l.k (wide_of l.wide) in
    (l.e-index ≤ length l.tape) × (length l.image ≡ length l.initial.image) × (l.f.size ≤ 4) × (pass step (imaging_of l.image l.f) (drop l.e-index l.tape) ≡ pass step (imaging_of l.initial.image nowhere) l.tape)
