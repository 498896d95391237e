-- `use_name` notes what the search finds. Assumes nothing.
use Rattle.names.proofs.Along.{used}
use Rattle.ledger.specs.Book.{thin_of}
use Rattle.names.proofs.use_name.Goals as goal

pub returns : goal.returns
returns c =
    used _ (thin_of c.args.thin.now)
    c.args.b _
    c.args.n.now _ _ _ _
    c.value.ensures c.lookup-d.ensures.0
    c.put_found.ensures c.sought.ensures
