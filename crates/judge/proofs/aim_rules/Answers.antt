-- A target by what its name means: a register, a cell, or neither.
use Rattle.judge.proofs.Answers as answers
use mathlib.Core.Path.{sym, ◌∙◌}
use Rattle.judge.proofs.aim_rules.Goals as goal

pub returns-then-is_register : goal.returns-then-is_register
returns-then-is_register c =
    λ f s. answers.aims-register s _ _ c.meaning-m.ensures _ _ (sym c.is_register.ensures ∙ c.if-is_register.true) c.register_target.ensures

pub returns-then-is_cell : goal.returns-then-is_cell
returns-then-is_cell c =
    λ f s. answers.aims-cell s _ _ c.meaning-m.ensures _ _ (sym c.is_cell.ensures ∙ c.if-is_cell.true)
    (c.element_rules-fits.ensures f s) (c.no_byte.ensures f s _) c.join.ensures

pub returns : goal.returns
returns c =
    λ f s. answers.aims-nowhere s _ _ c.meaning-m.ensures _ _ (sym c.is_register.ensures ∙ c.if-is_register.false)
    (sym c.is_cell.ensures ∙ c.if-is_cell.false) c.at.ensures
