-- `digits` reads digit by digit. Assumes nothing.
use borrow.Author.Rules.{rules}
use mathlib.Core.Path.{sym, ◌∙◌}
use Rattle.figures.proofs.Numbers.{digits-on, digits-none, digits-end}
use Rattle.figures.proofs.digits.Goals as goal

pub returns-in_err-v : goal.returns-in_err-v
returns-in_err-v c =
    c.from_residual.ensures ∙ digits-none _ _ _ _ _ c.loop-b.invariant.1 c.loop-b-test.true (sym c.with_digit.ensures.0 ∙ c.in_err-v.was)

pub loop-b-preserved : goal.loop-b-preserved
loop-b-preserved c =
    (search rules, digits-on _ _ _ _ _ c.loop-b.invariant.1 c.loop-b-test.true (sym c.with_digit.ensures.0 ∙ c.in_ok-v.was))

pub returns : goal.returns
returns c =
    digits-end _ _ _ _ _ c.loop-b.invariant.1 c.loop-b-test.false
