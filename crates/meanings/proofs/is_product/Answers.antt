-- The operator stands before its operand; a number has form 4.
use Rattle.meanings.proofs.Changes as changes
use Rattle.ledger.specs.Book.{wide_of, thin_of}
use Rattle.meanings.proofs.is_product.Goals as goal

pub returns : goal.returns
returns c =
    λ under. let args = c.args in changes.product_at (thin_of args.thin.now).found (wide_of args.wide.now).means under args.t
    args.kinds.now args.op _ _ _ _ _ c.form-number.ensures.0 c.less.ensures c.kind-times.ensures c.meaning.ensures
    c.is_long.ensures
