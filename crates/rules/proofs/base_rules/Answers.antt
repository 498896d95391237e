-- A base declaration is judged by its register and by the segment that it opens.
use Rattle.rules.proofs.Answers as answers
use Rattle.rules.proofs.base_rules.Goals as goal

pub returns : goal.returns
returns c =
    λ f s.
    answers.a-base s _ _ (c.taken_rules-taken.ensures f s) c.opens.ensures.0 c.rule.ensures c.join.ensures
