-- The base in force before a block comes back. Assumes nothing.
use Rattle.meanings.proofs.Moves as moves
use Rattle.meanings.proofs.leave_block.Goals as goal

pub returns : goal.returns
returns c =
    λ owners. moves.left-block owners c.args.outer.now c.args.s _ _ c.top.ensures c.less.ensures
