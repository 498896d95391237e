-- By the first argument: a name or a number alone, or more than a token. Assumes nothing.
use borrow.Author.Tests.{eq-eqb, ne_eqb}
use Rattle.emit.specs.Events.{second_codes}
use Rattle.emit.proofs.second.Goals as goal

pub returns-then-kind-ne-CLOSE : goal.returns-then-kind-ne-CLOSE
unfolding second_codes
returns-then-kind-ne-CLOSE c =
    rw (← c.kind.ensures, ne_eqb _ _ c.if-kind-ne-CLOSE.true)

pub returns-then-kind-eq-NUMBER : goal.returns-then-kind-eq-NUMBER
unfolding second_codes
returns-then-kind-eq-NUMBER c =
    rw (
      ← c.kind.ensures,
      eq-eqb _ _ c.if-kind-ne-CLOSE.false,
      ← c.kind-2.ensures,
      eq-eqb _ _ c.if-kind-eq-NUMBER.true,
      ← c.value.ensures,
    )
    c.function_codes.ensures

pub returns : goal.returns
unfolding second_codes
returns c =
    rw (
      ← c.kind.ensures,
      eq-eqb _ _ c.if-kind-ne-CLOSE.false,
      ← c.kind-2.ensures,
      ne_eqb _ _ c.if-kind-eq-NUMBER.false,
      ← c.register.ensures,
    )
    c.function_codes-2.ensures
