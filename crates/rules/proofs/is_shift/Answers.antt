-- The test by kinds is membership in the list.
use Rattle.rules.proofs.Answers as answers
use Rattle.rules.proofs.is_shift.Goals as goal

pub returns : goal.returns
returns c =
    answers.shift_is c.args.k
