-- `open_block` puts an empty block in front. Assumes nothing.
use Rattle.names.proofs.Changes.{opened}
use Rattle.ledger.specs.Book.{thin_of}
use mathlib.Core.Path.{refl}
use Rattle.names.proofs.open_block.Goals as goal

pub returns : goal.returns
returns c =
    rw c.put_written.ensures (
      opened (thin_of c.args.thin.now) c.args.b
          c.requires.0 c.requires.1.0,
      record { found-is = refl; goes-is = refl },
      (refl, refl),
    )
