-- What is taken in an argument's place is told by what the name of the use means.
use Rattle.rules.proofs.Answers as answers
use Rattle.rules.proofs.argued_rules.Goals as goal

pub returns : goal.returns
returns c =
    λ f s. rw (← (answers.takes_at s _ _ c.meaning.ensures _ c.takes-takes.ensures)) (c.argument_rules.ensures f s)
