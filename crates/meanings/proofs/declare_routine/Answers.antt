-- A procedure means its return register. Assumes nothing.
use mathlib.Core.Path.{ap, ◌∙◌}
use Rattle.meanings.proofs.Views as views
use Rattle.ledger.specs.Book.{Wide, wide_of, thin_of}
use Rattle.meanings.specs.Flat.{view_of}
use Rattle.meanings.proofs.declare_routine.Goals as goal

pub returns : goal.returns
returns c =
    λ n. ap (λ (w : Wide). view_of w (thin_of c.args.thin.now) n)
    c.put_mean.ensures ∙ views.routine-declared
    (wide_of c.args.wide.now)
    (thin_of c.args.thin.now) n
    c.args.t _ _ _
    c.meaning.ensures c.register-r.ensures.0
    c.register-r.ensures.1 c.packed_as.ensures
