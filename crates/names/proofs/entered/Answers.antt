-- `entered` joins the rules of what is declared or set. Assumes nothing.
use native.Mathlib.Numerals.{add-one}
use Rattle.names.specs.Judged.{entered}
use Rattle.names.proofs.entered.Goals as goal

pub returns : goal.returns
unfolding entered
returns c =
    rw (add-one, c.join_to.ensures, c.join.ensures, c.rule-few.ensures, c.rule-once.ensures)
