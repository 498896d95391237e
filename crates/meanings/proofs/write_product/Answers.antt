-- Only a product writes it. Assumes nothing.
use Rattle.ledger.specs.Book.{wide_of}
use Rattle.meanings.specs.Along.{write_product}
use Rattle.meanings.proofs.write_product.Goals as goal

pub returns-then-is_product : goal.returns-then-is_product
unfolding write_product
returns-then-is_product c =
    λ n. rw (
      ← (c.is_product.ensures
          (wide_of c.args.wide.now).under),
      c.if-is_product.true,
    ) (c.write_lower.ensures
    (wide_of c.args.wide.now) n)

pub returns-else-is_product : goal.returns-else-is_product
unfolding write_product
returns-else-is_product c =
    λ n. rw (← (c.is_product.ensures (wide_of c.args.wide.now).under), c.if-is_product.false)
