-- The loop goes down the stack: none above is the register.
use Rattle.ledger.specs.Book.{wide_of}
use Rattle.tables.specs.Stacks.{stack_of}
use Rattle.base.specs.Lists.{member}
use mathlib.Core.Path.{◌≡◌}
use Rattle.rules.proofs.is_kept.Given as goal

abbrev pub invariant-loop-i : goal.invariant-loop-i
invariant-loop-i l =
    member l.r (stack_of (wide_of l.wide).offsets l.depth) ≡ member l.r (stack_of (wide_of l.wide).offsets l.i)
