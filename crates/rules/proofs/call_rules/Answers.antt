-- A call is judged by the return register and by all that the called procedure's text writes; what is no routine is refused.
use Rattle.rules.proofs.Answers as answers
use mathlib.Core.Path.{sym, ◌∙◌}
use Rattle.rules.proofs.call_rules.Goals as goal

pub returns-then-is_routine : goal.returns-then-is_routine
returns-then-is_routine c =
    λ f s.
    answers.called s _ _ _ _ c.found-p.ensures.0
    c.mean-m.ensures
    (sym c.is_routine.ensures ∙ c.if-is_routine.true)
    c.number.ensures.0 c.written.ensures.0 c.spares.ensures
    c.write_rule-returns.ensures c.rule.ensures c.join.ensures

pub returns : goal.returns
returns c =
    λ f s.
    answers.no-routine s _ _ _ _ c.found-p.ensures.0 c.mean-m.ensures
    (sym c.is_routine.ensures ∙ c.if-is_routine.false) c.at.ensures
