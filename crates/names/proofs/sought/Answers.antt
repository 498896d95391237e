-- `sought` joins the rule of what is looked for. Assumes nothing.
use Rattle.names.specs.Judged.{sought}
use Rattle.names.proofs.sought.Goals as goal

pub returns : goal.returns
unfolding sought
returns c =
    rw (c.join_to.ensures, c.rule.ensures)
