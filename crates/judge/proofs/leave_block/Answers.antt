-- The bases of the block are taken away, and the count around it is in force again.
use Rattle.judge.proofs.Moves as moves
use Rattle.judge.proofs.leave_block.Goals as goal

pub returns : goal.returns
returns c =
    λ kept.
    moves.left-block kept c.args.counts.now c.args.d _ _ _
    c.saturating_sub.ensures c.top.ensures c.saturating_sub-2.ensures
