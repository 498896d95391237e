-- `lay_literals` stores four bytes a literal. Assumes nothing.
use borrow.Author.Rules.{rules}
use mathlib.Core.Path.{refl}
use Rattle.made.proofs.Literals.{words-start, words-turn, words-end}
use Rattle.made.proofs.lay_literals.Goals as goal

pub loop-i-init : goal.loop-i-init
loop-i-init c =
    (search rules, search rules, words-start _ _ _ 0)

pub loop-i-preserved : goal.loop-i-preserved
loop-i-preserved c =
    (search rules, search rules, rw c.lay.ensures (words-turn _ _ _ _ _ c.loop-i-test.true refl c.loop-i.invariant.2))

pub returns : goal.returns
returns c =
    words-end _ _ _ _ c.loop-i-test.false c.loop-i.invariant.2
