-- `pair` writes the two halves of the product. Assumes nothing.
use Rattle.machine.proofs.pair.Goals as goal

pub returns : goal.returns
returns c =
    rw (c.go.ensures, c.product-p.ensures, c.get.ensures)
