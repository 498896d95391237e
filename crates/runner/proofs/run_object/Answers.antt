-- `run_object` refuses in the paper's order, and else loads and runs what was read. Assumes nothing.
use mathlib.Core.Path.{sym, ap, ◌∙◌}
use native.Mathlib.Omega.{arith}
use borrow.Author.Rules.{rules}
use Rattle.runner.proofs.Forms.{runner-uncounted, runner-18, runner-19, runner-runs}
use Rattle.runner.specs.Runner.{accepted}
use Rattle.runner.proofs.run_object.Goals as goal

pub returns-in_default : goal.returns-in_default
returns-in_default c =
    sym (runner-uncounted _ _ _ _ _ c.in_default.ensures)

pub returns-then-code-gt3 : goal.returns-then-code-gt3
returns-then-code-gt3 c =
    sym (runner-18 _ _ _ _ _ _ c.in-Some.ensures (omega (arith, c.if-code-gt3.true)))

pub returns-then-s-lt-NEEDED : goal.returns-then-s-lt-NEEDED
returns-then-s-lt-NEEDED c =
    sym
    (runner-19 _ _ _ _ _ _ c.in-Some.ensures (omega (arith, c.if-code-gt3.false))
    (omega (arith, c.if-s-lt-NEEDED.true)))

pub load-requires : goal.load-requires
load-requires c =
    (search rules, omega arith)

pub returns : goal.returns
returns c =
    ap accepted c.started.ensures
    ∙ rw c.load.ensures
    (sym
    (runner-runs _ _ _ _ _ _ c.in-Some.ensures (omega (arith, c.if-code-gt3.false))
    (omega (arith, c.if-s-lt-NEEDED.false))))
