-- A control is a register or is refused.
use Rattle.judge.proofs.Answers as answers
use mathlib.Core.Path.{sym, ◌∙◌}
use Rattle.judge.proofs.control_rules.Goals as goal

pub returns-then-is_register : goal.returns-then-is_register
returns-then-is_register c =
    λ f s. answers.control-register s _ _ c.meaning-m.ensures _ _ (sym c.is_register.ensures
    ∙ c.if-is_register.true) c.register_target.ensures

pub returns : goal.returns
returns c =
    λ f s. answers.control-nothing s _ _ c.meaning-m.ensures _ _ (sym c.is_register.ensures ∙ c.if-is_register.false) c.at.ensures
