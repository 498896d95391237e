-- A block's count is pushed, and the new one is 0.
use Rattle.judge.proofs.Moves as moves
use Rattle.judge.proofs.enter_block.Goals as goal

pub returns : goal.returns
returns c =
    λ kept.
    moves.entered-block kept c.args.counts.now c.args.d
    c.requires c.put_wide.ensures
