-- The loop goes down the stack: none above is in the set.
use Rattle.ledger.specs.Book.{wide_of}
use Rattle.tables.specs.Stacks.{stack_of}
use Rattle.tables.specs.Packed.{set_of}
use Rattle.static_rules.specs.Registers.{spares}
use mathlib.Core.Path.{◌≡◌}
use Rattle.rules.proofs.spares.Given as goal

abbrev pub invariant-loop-i : goal.invariant-loop-i
invariant-loop-i l =
    spares (set_of l.set) (stack_of (wide_of l.wide).offsets l.depth) ≡ spares (set_of l.set) (stack_of (wide_of l.wide).offsets l.i)
