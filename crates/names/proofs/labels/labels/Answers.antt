-- `labels` is the one loop after the other. Assumes nothing.
use Rattle.names.proofs.labels.Along.{both-loops}
use Rattle.ledger.specs.Book.{thin_of}
use Rattle.names.proofs.labels.labels.Goals as goal

pub returns : goal.returns
returns c =
    both-loops _ _ (thin_of c.args.thin.now) _ _ _ _
    c.link_all.ensures c.label_all.ensures.0 c.label_all.ensures.1
