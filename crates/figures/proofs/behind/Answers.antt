-- `behind` passes over n separators. Assumes nothing.
use borrow.Author.Rules.{rules}
use native.Mathlib.Omega.{arith}
use Rattle.figures.proofs.Parts.{behind-on, behind-none, behind-end}
use Rattle.figures.proofs.behind.Goals as goal

pub returns-then-left-eq0 : goal.returns-then-left-eq0
returns-then-left-eq0 c =
    (behind-none _ _ _ _ c.loop-i.left (omega arith) c.loop-i.invariant, search rules)

pub loop-i-preserved : goal.loop-i-preserved
loop-i-preserved c =
    rw c.left_after-left.ensures (behind-on _ _ _ _ c.loop-i.left c.loop-i-test.true (omega arith) c.loop-i.invariant)

pub returns : goal.returns
returns c =
    (behind-end _ _ _ _ c.loop-i.left c.loop-i-test.false c.loop-i.invariant, search rules)
