-- `innermost_start` says where the innermost block begins; where none is open it is empty. Assumes nothing.
use Rattle.names.proofs.Changes.{innermost-none, innermost-some}
use Rattle.ledger.specs.Book.{thin_of}
use Rattle.names.proofs.innermost_start.Goals as goal

pub returns-then-b-eq0 : goal.returns-then-b-eq0
returns-then-b-eq0 c =
    innermost-none (thin_of c.args.thin.now) c.args.b c.if-b-eq0.true

pub returns : goal.returns
returns c =
    innermost-some (thin_of c.args.thin.now) c.args.b _ c.if-b-eq0.false c.written.ensures.0
