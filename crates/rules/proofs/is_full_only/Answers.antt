-- The test by kinds is membership in the list.
use Rattle.rules.proofs.Answers as answers
use Rattle.rules.proofs.is_full_only.Goals as goal

pub returns : goal.returns
returns c =
    answers.full-only-is c.args.k
