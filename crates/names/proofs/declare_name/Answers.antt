-- `declare_name` joins the rules of a declaration as the definition does. Assumes nothing.
use mathlib.Core.Path.{◌∙◌}
use Rattle.names.proofs.Along.{declared}
use Rattle.ledger.specs.Book.{thin_of}
use Rattle.names.proofs.declare_name.Goals as goal

pub returns : goal.returns
returns c =
    declared _ (thin_of c.args.thin.now) c.args.b _ c.args.n.now _ _ _ _ c.value.ensures
    c.innermost_start-start.ensures (c.unwrap_or.ensures ∙ c.in_block-earlier.ensures.is 0) c.entered.ensures
