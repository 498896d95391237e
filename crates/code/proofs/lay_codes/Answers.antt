-- Those of each shape. Assumes nothing.
use native.Mathlib.Omega.{arith}
use Rattle.base.specs.Walk.{fold}
use Rattle.emit.specs.Codes.{list_of}
use Rattle.code.proofs.lay_codes.Goals as goal

pub returns-in-None : goal.returns-in-None
unfolding list_of fold
returns-in-None c =
    (λ s h. rw c.in-None.is h, omega arith, c.requires.0, omega arith)

pub returns-in-One : goal.returns-in-One
unfolding list_of
returns-in-One c =
    let l = c.lay_each.ensures in (λ s h. rw c.in-One.is (l.0 s h), omega (arith, l.1), l.2, omega (arith, l.3))

pub returns-in-Both : goal.returns-in-Both
unfolding list_of
returns-in-Both c =
    let l = c.lay_each-in-Both.ensures in (λ s h. rw c.in-Both.is (l.0 s h), omega (arith, l.1), l.2, omega (arith, l.3))
