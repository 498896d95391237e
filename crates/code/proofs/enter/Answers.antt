-- A value that is not there is the last from then on. Assumes nothing.
use native.Mathlib.Nat.{le_of_lt}
use native.Mathlib.Omega.{arith}
use Rattle.code.proofs.Coding.{found-needs, new-needs, new-place}
use Rattle.code.proofs.enter.Goals as goal

pub returns-then-place-count : goal.returns-then-place-count
returns-then-place-count c = (
  new-needs c.args.v c.args.literals.now
      c.args.count c.requires.0
      c.args.place c.requires.1
      c.if-place-count.true _ c.put_wide.ensures,
  new-place c.args.v c.args.literals.now
      c.args.count c.requires.0
      c.args.place c.requires.1
      c.if-place-count.true _ c.put_wide.ensures,
  omega arith,
)

pub returns : goal.returns
returns c = (
  found-needs c.args.v c.args.literals.now c.args.count (le_of_lt c.requires.0)
      c.args.place c.requires.1 c.requires.2 c.if-place-count.false,
  c.requires.1,
  omega arith,
)
