-- `put_thin` sets one element: one column, at one row. Assumes nothing.
use Rattle.ledger.proofs.Columns.{thin-put, thin-kept}
use Rattle.ledger.proofs.put_thin.Goals as goal

pub returns-then-t-thin : goal.returns-then-t-thin
returns-then-t-thin c =
    thin-put _ _ _ c.args.column c.requires.0 c.if-t-thin.true

pub returns-else-t-thin : goal.returns-else-t-thin
returns-else-t-thin c =
    thin-kept _ c.args.t c.args.v c.args.column c.if-t-thin.false
