-- `run` is the definition's run. Assumes nothing.
use Rattle.std.proofs.Common.{rules}
use Rattle.machine.proofs.Runs.{run_on, run-stop, run_out}
use Rattle.run.proofs.run.Goals as goal

pub returns-in-Some : goal.returns-in-Some
returns-in-Some c =
    run-stop _ _ _ c.step-next.result.stop c.step-next.ensures _ _ c.loop-count-test.true c.in-Some.is c.loop-count.invariant.1

pub loop-count-preserved : goal.loop-count-preserved
loop-count-preserved c =
    (search rules, run_on _ _ _ c.step-next.result.stop c.step-next.ensures _ _ c.loop-count-test.true c.in_default.is c.loop-count.invariant.1)

pub returns : goal.returns
returns c =
    run_out _ _ _ _ _ c.loop-count-test.false (search rules) c.loop-count.invariant.1
