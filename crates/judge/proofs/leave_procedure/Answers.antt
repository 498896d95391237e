-- The return register is taken away.
use Rattle.judge.proofs.Moves as moves
use Rattle.judge.proofs.leave_procedure.Goals as goal

pub returns : goal.returns
returns c =
    λ kept counts. moves.left-procedure kept counts c.args.d _ c.saturating_sub.ensures
