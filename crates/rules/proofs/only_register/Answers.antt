-- A number is no register; a name is by what it means, and stands alone.
use Rattle.static_rules.specs.Rules.{only_register}
use Rattle.rules.proofs.Answers as answers
use Rattle.rules.proofs.only_register.Goals as goal

pub returns-then-shape-eq-NUMBER : goal.returns-then-shape-eq-NUMBER
unfolding only_register
returns-then-shape-eq-NUMBER c =
    λ f s. rw (answers.a-number _ c.args.t c.if-shape-eq-NUMBER.true) c.at.ensures

pub returns : goal.returns
returns c =
    λ f s. answers.one-register s _ _ c.meaning-m.ensures _ c.if-shape-eq-NUMBER.false c.is_register.ensures c.is_bare.ensures c.rule.ensures
