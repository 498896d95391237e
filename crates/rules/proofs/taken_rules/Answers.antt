-- A register that the text takes is judged as one that is used, and is written.
use Rattle.rules.proofs.Answers as answers
use Rattle.rules.proofs.taken_rules.Goals as goal

pub returns : goal.returns
returns c =
    λ f s. answers.a-taken s _ _ c.meaning.ensures _ c.register-r.ensures.0 (c.used_register-used.ensures f s)
    c.write_rule.ensures c.join.ensures
