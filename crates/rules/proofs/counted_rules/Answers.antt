-- A function's count is the definition's; what is no function has none that is right.
use Rattle.rules.proofs.Answers as answers
use mathlib.Core.Path.{sym, ap, ◌∙◌}
use Rattle.functions.specs.declared.Function.{Function}
use Rattle.rules.proofs.counted_rules.Goals as goal

pub returns-then-is_function : goal.returns-then-is_function
returns-then-is_function c =
    λ f s.
    answers.counts-function s _ _ c.meaning-m.ensures _
    (sym c.is_function.ensures ∙ c.if-is_function.true)
    (ap (λ (g : Function). g.arity) c.meant-arity.ensures) c.rule.ensures

pub returns : goal.returns
returns c =
    λ f s.
    answers.counts-none s _ _ c.meaning-m.ensures _ (sym c.is_function.ensures ∙ c.if-is_function.false)
    c.at.ensures
