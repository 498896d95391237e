-- By the packed meaning. Assumes nothing.
use mathlib.Core.Path.{sym, ◌∙◌}
use Rattle.emit.specs.Events.{place_by}
use Rattle.emit.proofs.place_by.Goals as goal

pub returns-then-is_register : goal.returns-then-is_register
unfolding place_by
returns-then-is_register c =
    rw (sym c.is_register.ensures ∙ c.if-is_register.true, ← c.number.ensures.0)

pub returns-then-is_cell : goal.returns-then-is_cell
unfolding place_by
returns-then-is_cell c =
    rw (
      sym c.is_register.ensures ∙ c.if-is_register.false,
      sym c.is_cell.ensures ∙ c.if-is_cell.true,
    ) c.element.ensures

pub returns : goal.returns
unfolding place_by
returns c =
    rw (sym c.is_register.ensures ∙ c.if-is_register.false, sym c.is_cell.ensures ∙ c.if-is_cell.false)
