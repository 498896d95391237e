-- The tests in the definition's order. Assumes nothing.
use borrow.Author.Tests.{lt-ltb, le-ltb}
use Rattle.cells.specs.Elements.{placed_at}
use Rattle.cells.proofs.placed_at.Goals as goal

pub returns-then-segment-gt3 : goal.returns-then-segment-gt3
unfolding placed_at
returns-then-segment-gt3 c =
    rw (lt-ltb _ _ c.if-segment-gt3.true)

pub returns-then-offset-gt-PAGE : goal.returns-then-offset-gt-PAGE
unfolding placed_at
returns-then-offset-gt-PAGE c =
    rw (le-ltb _ _ c.if-segment-gt3.false, lt-ltb _ _ c.if-offset-gt-PAGE.true)

pub returns-then-v-gt-PAGE : goal.returns-then-v-gt-PAGE
unfolding placed_at
returns-then-v-gt-PAGE c =
    rw (le-ltb _ _ c.if-segment-gt3.false, le-ltb _ _ c.if-offset-gt-PAGE.false, lt-ltb _ _ c.if-v-gt-PAGE.true)

pub returns : goal.returns
unfolding placed_at
returns c =
    rw (le-ltb _ _ c.if-segment-gt3.false, le-ltb _ _ c.if-offset-gt-PAGE.false, le-ltb _ _ c.if-v-gt-PAGE.false)
