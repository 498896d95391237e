-- `negated` is the two's complement of 64 bits. Assumes nothing.
use Rattle.std.proofs.Common.{rules}
use Rattle.alu.proofs.Products.{negated-zero, negated-more}
use Rattle.alu.proofs.negated.Goals as goal

pub returns-else-p-eq0 : goal.returns-else-p-eq0
returns-else-p-eq0 c =
    search (negated-zero, negated-more, rules)
