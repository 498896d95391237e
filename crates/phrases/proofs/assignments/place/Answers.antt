-- `place` writes the event of the designator that was read. Assumes nothing.
use Rattle.std.proofs.Common.{arith}
use Rattle.tape.specs.Tape.{tape_designator}
use Rattle.readers.proofs.Reading.{wrote}
use Rattle.phrases.proofs.assignments.place.Goals as goal

pub returns-clause-read : goal.returns-clause-read
unfolding tape_designator
returns-clause-read c =
    let d = c.in_ok-shape.ensures.read in
    let s = c.in_ok-shape.ensures.still in
    let w = c.write.ensures in
    rw (d.is, ← w.here, ← d.same, ← w.same) (wrote (λ k. rw (← s.events, ← s.tape, d.fits.0, ← d.fits.1) (w.laid k)) (omega arith) (omega arith))
