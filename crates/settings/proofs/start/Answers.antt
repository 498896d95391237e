-- `start` goes word by word. Assumes nothing.
use mathlib.Core.Path.{◌∙◌}
use Rattle.std.proofs.lemmas.Result.{err_from_is_err_and}
use Rattle.settings.proofs.Going.{words-end}
use Rattle.settings.proofs.Said.{said_on, said_wrong}
use Rattle.settings.proofs.start.Goals as goal

pub returns-in_err-values : goal.returns-in_err-values
returns-in_err-values c =
    let p = err_from_is_err_and c.from_residual.result c.from_residual.ensures.1 in
    rw (p.1, p.2)
    (said_wrong _ _ _ _ _ c.loop-n.invariant c.loop-n-test.true c.part.ensures c.run_option-option.ensures c.part-in-loop-n.ensures c.said_by.ensures c.in_err-values.was)

pub loop-n-init : goal.loop-n-init
loop-n-init c =
    rw c.part_count-count.ensures.0

pub loop-n-preserved : goal.loop-n-preserved
loop-n-preserved c =
    said_on _ _ _ _ _ c.loop-n.invariant c.loop-n-test.true c.part.ensures c.run_option-option.ensures c.part-in-loop-n.ensures c.said_by.ensures c.in_ok-values.was

pub returns : goal.returns
returns c =
    words-end _ _ _ _ _ c.loop-n.invariant c.loop-n-test.false
