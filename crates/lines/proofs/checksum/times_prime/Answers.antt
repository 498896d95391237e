-- `times_prime` is the product without what goes past 64 bits, by the two parts of the prime and the two halves of the number. Assumes nothing.
use Rattle.lines.proofs.Products.{product-wraps}
use Rattle.lines.proofs.checksum.times_prime.Goals as goal

pub returns : goal.returns
returns c = product-wraps _
