-- One register more is written. Assumes nothing.
use mathlib.Core.Path.{ap, ◌∙◌}
use Rattle.meanings.proofs.Views as views
use Rattle.ledger.specs.Book.{Thin, thin_of}
use Rattle.meanings.specs.Flat.{view_of}
use Rattle.meanings.proofs.write.Goals as goal

pub returns : goal.returns
returns c =
    λ w n. ap (λ (b : Thin). view_of w b n) c.put_written.ensures
    ∙ views.one_written w (thin_of c.args.thin.now) n
    c.args.own
    c.args.r _ _ c.written.ensures.0
    c.with_register.ensures.0
