-- A call writes the return register and all that the text writes. Assumes nothing.
use mathlib.Core.Path.{sym, ap, ◌∙◌}
use Rattle.meanings.proofs.Views as views
use Rattle.ledger.specs.Book.{wide_of, thin_of}
use Rattle.meanings.specs.Flat.{changed}
use Rattle.static_rules.specs.Meanings.{write_text}
use Rattle.meanings.proofs.write_call.Goals as goal

pub returns-then-is_routine : goal.returns-then-is_routine
returns-then-is_routine c =
    λ n. c.write_text.ensures (wide_of c.args.wide.now) n
    ∙ (ap (changed (write_text c.args.own c.found-p.result)) (c.write.ensures (wide_of c.args.wide.now) n)
    ∙ views.call-written (wide_of c.args.wide.now) (thin_of c.args.thin.now) n c.args.own c.args.t _ _ _
    c.found-p.ensures.0 c.mean-m.ensures (sym c.is_routine.ensures ∙ c.if-is_routine.true) c.number.ensures.0)

pub returns-else-is_routine : goal.returns-else-is_routine
returns-else-is_routine c =
    λ n. views.no_call (wide_of c.args.wide.now)
    (thin_of c.args.thin.now) n
    c.args.own c.args.t _ _
    c.found-p.ensures.0 c.mean-m.ensures (sym c.is_routine.ensures ∙ c.if-is_routine.false)
