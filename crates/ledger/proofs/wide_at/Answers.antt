-- `wide_at` reads the row, or 0 past the end. Assumes nothing.
use Rattle.ledger.proofs.Columns.{wide_read, wide-past}
use Rattle.ledger.proofs.wide_at.Goals as goal

pub returns-then-t-wide : goal.returns-then-t-wide
returns-then-t-wide c =
    wide_read c.args.wide.now c.args.t c.args.column c.requires c.if-t-wide.true

pub returns : goal.returns
returns c =
    wide-past c.args.wide.now c.args.t c.args.column c.if-t-wide.false
