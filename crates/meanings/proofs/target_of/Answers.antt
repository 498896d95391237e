-- A register, and one; 0 where the meaning is none. Assumes nothing.
use mathlib.Core.Path.{sym, ◌∙◌}
use Rattle.meanings.specs.Flat.{target_in}
use Rattle.meanings.proofs.target_of.Goals as goal

pub returns-then-is_register : goal.returns-then-is_register
unfolding target_in
returns-then-is_register c =
    rw (sym c.is_register.ensures ∙ c.if-is_register.true, ← c.number.ensures.0)

pub returns : goal.returns
unfolding target_in
returns c =
    rw (sym c.is_register.ensures ∙ c.if-is_register.false)
