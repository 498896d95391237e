-- By the count of the arguments. Assumes nothing.
use mathlib.Core.Path.{ap}
use borrow.Author.Tests.{eq-eqb, ne_eqb}
use Rattle.functions.specs.declared.Function.{Function}
use Rattle.emit.specs.Events.{used_codes}
use Rattle.emit.proofs.used.Goals as goal

pub returns-then-count-f : goal.returns-then-count-f
unfolding used_codes
returns-then-count-f c =
    λ g e. rw (← (ap (λ (f : Function). f.arity) e), ne_eqb _ _ c.if-count-f.true)

pub returns-then-count-eq1 : goal.returns-then-count-eq1
unfolding used_codes
returns-then-count-eq1 c =
    λ g e.
    rw (
      ← (ap (λ (f : Function). f.arity) e),
      eq-eqb _ _ c.if-count-f.false,
      eq-eqb _ _ c.if-count-eq1.true,
      ← (ap (λ (f : Function). f.number) e),
      ← (ap (λ (f : Function). f.op) e),
    )
    c.function_codes.ensures

pub returns : goal.returns
unfolding used_codes
returns c =
    λ g e.
    rw (
      ← (ap (λ (f : Function). f.arity) e),
      eq-eqb _ _ c.if-count-f.false,
      ne_eqb _ _ c.if-count-eq1.false,
      ← (ap (λ (f : Function). f.op) e),
    )
    c.second.ensures
