-- `text_length` adds up what the segments take, by the number of base declarations. Assumes nothing.
use native.Mathlib.Omega.{arith}
use borrow.Author.Rules.{rules}
use Rattle.frames.proofs.Objects.{one-length, two-length}
use Rattle.frames.specs.Frames.{length_for}
use Rattle.frames.proofs.text_length.Goals as goal

pub returns-then-bases-eq0 : goal.returns-then-bases-eq0
unfolding length_for
returns-then-bases-eq0 c =
    rw c.if-bases-eq0.true (search rules)

pub returns-then-bases-eq1 : goal.returns-then-bases-eq1
unfolding length_for
returns-then-bases-eq1 c =
    omega (
      arith,
      one-length c.args.bases c.args.second
          c.args.third c.if-bases-eq1.true,
    )

pub returns : goal.returns
unfolding length_for
returns c =
    omega (
      arith,
      two-length c.args.bases
          c.args.second c.args.third
          c.if-bases-eq0.false c.if-bases-eq1.false,
    )
