-- A block keeps the base in force before it. Assumes nothing.
use Rattle.meanings.proofs.Moves as moves
use Rattle.meanings.proofs.enter_block.Goals as goal

pub returns : goal.returns
returns c =
    λ owners. moves.entered-block owners c.args.outer.now
    c.args.s c.requires c.put_wide.ensures
