-- All that a text writes is written. Assumes nothing.
use mathlib.Core.Path.{ap, ◌∙◌}
use Rattle.meanings.proofs.Views as views
use Rattle.ledger.specs.Book.{Thin, thin_of}
use Rattle.meanings.specs.Flat.{view_of}
use lib.Bits.{or_lt}
use Rattle.meanings.proofs.write_text.Goals as goal

pub put_written-requires : goal.put_written-requires
put_written-requires c =
    or_lt 16 _ _ c.written.ensures.1 c.written-2.ensures.1

pub returns : goal.returns
returns c =
    λ w n. ap (λ (b : Thin). view_of w b n) c.put_written.ensures
    ∙ views.text-written w (thin_of c.args.thin.now) n
    c.args.own
    c.args.p _ _ c.written.ensures.0
    c.written-2.ensures.0
