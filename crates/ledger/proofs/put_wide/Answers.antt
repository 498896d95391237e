-- `put_wide` sets one element: one column, at one row. Assumes nothing.
use Rattle.ledger.proofs.Columns.{wide-put, wide-kept}
use Rattle.ledger.proofs.put_wide.Goals as goal

pub returns-then-t-wide : goal.returns-then-t-wide
returns-then-t-wide c =
    wide-put _ _ _ c.args.column c.requires c.if-t-wide.true

pub returns-else-t-wide : goal.returns-else-t-wide
returns-else-t-wide c =
    wide-kept _ c.args.t c.args.v c.args.column c.if-t-wide.false
