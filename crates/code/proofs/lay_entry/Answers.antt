-- By whether one ends: a branch to its start, or nothing. Assumes nothing.
use mathlib.Core.Path.{refl}
use native.Mathlib.Omega.{arith}
use Rattle.base.specs.Walk.{fold}
use Rattle.base.proofs.Tests.{told}
use Rattle.translation.specs.Instructions.{always}
use Rattle.emit.specs.Codes.{code_size, branch_code}
use Rattle.code.proofs.Coding.{lay-four}
use Rattle.code.proofs.lay_entry.Goals as goal

pub returns-then-ends_here : goal.returns-then-ends_here
unfolding fold code_size
returns-then-ends_here c =
    let a = c.args in (
      λ start seen.
          rw (told c.ends_here.ensures c.if-ends_here.true)
          (lay-four start a.at a.image.now seen (branch_code always a.from) _ _ _ _ _ refl c.lay_four.ensures),
      omega arith,
    )

pub returns : goal.returns
unfolding fold
returns c =
    (λ start seen. rw (told c.ends_here.ensures c.if-ends_here.false), omega arith)
