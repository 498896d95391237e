-- A number is compared as it is, since what is at most 255 is not negative; a name is no number.
use Rattle.static_rules.specs.Rules.{byte_rules}
use Rattle.static_rules.proofs.Elements.{from_zero}
use Rattle.rules.proofs.Answers as answers
use native.Mathlib.Omega.{arith}
use Rattle.rules.proofs.byte_rules.Goals as goal

pub returns-then-shape-eq-NUMBER : goal.returns-then-shape-eq-NUMBER
unfolding byte_rules
returns-then-shape-eq-NUMBER c =
    λ f e.
    rw (
      answers.a-number _ c.args.t c.if-shape-eq-NUMBER.true,
      e,
      ← c.value.ensures,
      from_zero 255 _ (omega arith),
    )
    c.rule.ensures

pub returns : goal.returns
unfolding byte_rules
returns c =
    λ f e. rw (answers.a-place _ c.args.t c.if-shape-eq-NUMBER.false) c.at.ensures
