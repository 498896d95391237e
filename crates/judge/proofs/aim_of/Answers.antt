-- What is aimed at is told by the packed meaning.
use Rattle.judge.proofs.Answers as answers
use mathlib.Core.Path.{sym, ◌∙◌}
use Rattle.judge.proofs.aim_of.Goals as goal

pub returns-then-is_register : goal.returns-then-is_register
returns-then-is_register c =
    answers.aimed-register _ _ (sym c.is_register.ensures ∙ c.if-is_register.true) c.number.ensures.0

pub returns-then-is_cell : goal.returns-then-is_cell
returns-then-is_cell c =
    answers.aimed-cell _ (sym c.is_cell.ensures ∙ c.if-is_cell.true)

pub returns : goal.returns
returns c =
    answers.aimed-nowhere _ (sym c.is_register.ensures ∙ c.if-is_register.false) (sym c.is_cell.ensures ∙ c.if-is_cell.false)
