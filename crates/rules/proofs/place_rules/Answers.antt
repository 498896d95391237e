-- A designator by what its name means: a register, a cell, or neither.
use Rattle.rules.proofs.Answers as answers
use mathlib.Core.Path.{sym, ◌∙◌}
use Rattle.rules.proofs.place_rules.Goals as goal

pub returns-then-is_register : goal.returns-then-is_register
returns-then-is_register c =
    λ f s.
    answers.placed-register s _ _ c.meaning-m.ensures _
    (sym c.is_register.ensures ∙ c.if-is_register.true) c.is_bare.ensures c.rule.ensures

pub returns-then-is_cell : goal.returns-then-is_cell
returns-then-is_cell c =
    λ f s. answers.placed-cell s _ _ c.meaning-m.ensures _ (sym c.is_cell.ensures
    ∙ c.if-is_cell.true) (c.element_rules.ensures f s)

pub returns : goal.returns
returns c =
    λ f s. answers.placed-nowhere s _ _ c.meaning-m.ensures _ (sym c.is_register.ensures ∙ c.if-is_register.false)
    (sym c.is_cell.ensures ∙ c.if-is_cell.false) c.at.ensures
