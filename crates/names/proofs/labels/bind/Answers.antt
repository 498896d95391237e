-- `bind` notes what the search finds. Assumes nothing.
use Rattle.names.proofs.labels.Along.{bound}
use Rattle.ledger.specs.Book.{thin_of}
use mathlib.Core.Path.{refl}
use Rattle.names.proofs.labels.bind.Goals as goal

pub returns : goal.returns
returns c =
    bound _ _ _ _ c.args.n.now _ _ _ _
    (thin_of c.args.thin.now) _ refl refl
    c.value.ensures c.lookup-l.ensures.0
    c.put_goes.ensures c.sought.ensures
