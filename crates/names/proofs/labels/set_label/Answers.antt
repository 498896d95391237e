-- `set_label` joins the rules of a label as the definition does. Assumes nothing.
use mathlib.Core.Path.{◌∙◌}
use Rattle.names.proofs.labels.Along.{label-set}
use Rattle.ledger.specs.Book.{thin_of}
use Rattle.names.proofs.labels.set_label.Goals as goal

pub returns : goal.returns
returns c =
    label-set _ _ (thin_of c.args.thin.now).written _ c.args.n.now _ _ _ _ c.value.ensures
    (c.after-earlier.ensures.0 _ c.opens.ensures.0) (c.unwrap_or.ensures ∙ c.in_chain-first.ensures.is 0) c.entered.ensures
