-- The procedure around comes back. Assumes nothing.
use Rattle.meanings.proofs.Moves as moves
use Rattle.meanings.proofs.leave_procedure.Goals as goal

pub returns : goal.returns
returns c =
    λ outer. moves.left-procedure c.args.owners.now outer c.args.s _ _ c.top.ensures c.less.ensures
