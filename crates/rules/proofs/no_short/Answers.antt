-- A number is never short; a name is by what it means.
use Rattle.static_rules.specs.Rules.{no_short}
use Rattle.rules.proofs.Answers as answers
use Rattle.rules.proofs.no_short.Goals as goal

pub returns-then-shape-eq-NUMBER : goal.returns-then-shape-eq-NUMBER
unfolding no_short
returns-then-shape-eq-NUMBER c =
    λ f s. rw (answers.a-number _ c.args.t c.if-shape-eq-NUMBER.true)

pub returns : goal.returns
returns c =
    λ f s. answers.not_short s _ _ c.meaning-m.ensures _ c.if-shape-eq-NUMBER.false
    c.is_cell.ensures c.is_short.ensures c.rule.ensures
