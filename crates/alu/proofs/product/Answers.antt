-- `product` is the product of the distances, negated where the signs differ. Assumes nothing.
use Rattle.std.proofs.Common.{rules}
use Rattle.alu.proofs.Products.{product-fits, products}
use Rattle.alu.proofs.product.Goals as goal

pub overflow_mul-p : goal.overflow_mul-p
overflow_mul-p c =
    search (product-fits, rules)

pub returns-then-b-lt-TOP : goal.returns-then-b-lt-TOP
returns-then-b-lt-TOP c =
    search (products, rules)

pub returns-else-b-lt-TOP : goal.returns-else-b-lt-TOP
returns-else-b-lt-TOP c =
    search (products, rules)

pub returns-then-b-lt-TOP-2 : goal.returns-then-b-lt-TOP-2
returns-then-b-lt-TOP-2 c =
    search (products, rules)

pub returns-else-b-lt-TOP-2 : goal.returns-else-b-lt-TOP-2
returns-else-b-lt-TOP-2 c =
    search (products, rules)
