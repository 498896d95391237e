-- `half_product` is the low half of the product. Assumes nothing.
use Rattle.alu.proofs.Products.{half-made}
use Rattle.alu.proofs.half_product.Goals as goal

pub returns : goal.returns
returns c =
    half-made c.args.a c.args.b c.product.ensures
