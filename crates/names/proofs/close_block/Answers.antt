-- `close_block` takes the innermost block away. Assumes nothing.
use Rattle.names.proofs.Changes.{not-closed, closed}
use Rattle.ledger.specs.Book.{thin_of}
use Rattle.names.proofs.close_block.Goals as goal

pub returns-then-b-eq0 : goal.returns-then-b-eq0
returns-then-b-eq0 c =
    not-closed (thin_of c.args.thin.now) c.args.b c.requires c.if-b-eq0.true

pub returns : goal.returns
returns c =
    closed (thin_of c.args.thin.now) c.args.b _ c.requires c.if-b-eq0.false c.written-count.ensures.0
