-- `enter_name` puts a name into the innermost block. Assumes nothing.
use Rattle.names.proofs.Changes.{entered}
use Rattle.ledger.specs.Book.{thin_of}
use mathlib.Core.Path.{refl}
use Rattle.names.proofs.enter_name.Goals as goal

pub returns : goal.returns
returns c =
    rw c.put_opens.ensures (
      entered (thin_of c.args.thin.now) _ c.args.b
          c.requires.0 c.requires.1.0,
      record { found-is = refl; goes-is = refl },
      (refl, refl),
    )
