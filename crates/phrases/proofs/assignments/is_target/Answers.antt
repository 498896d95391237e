-- `is_target` reads the designator, looks behind it and goes back. Assumes nothing.
use Rattle.std.proofs.Common.{refl}
use Rattle.phrases.proofs.assignments.is_target.Goals as goal

pub returns-in-Ok-clause-target : goal.returns-in-Ok-clause-target
returns-in-Ok-clause-target c =
    let d = c.in-Ok.ensures.read in rw (d.is, ← d.same, c.kind-next.ensures.is) refl
