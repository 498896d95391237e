-- Why `register` meets its contract.
use mathlib.Core.Path.{sym, ◌∙◌}
use native.Mathlib.Omega.{arith}
use Rattle.tables.specs.Packed.{register_in}
use Rattle.tables.proofs.register.Goals as goal

pub returns-then-is_register : goal.returns-then-is_register
unfolding register_in
returns-then-is_register c =
    (rw (sym c.is_register.ensures ∙ c.if-is_register.true) c.number.ensures.0, c.number.ensures.1)

pub returns : goal.returns
unfolding register_in
returns c =
    (rw (sym c.is_register.ensures ∙ c.if-is_register.false), omega arith)
