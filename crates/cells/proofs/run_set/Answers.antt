-- Refused as the runner does, or loaded, laid and run. Assumes nothing.
use Rattle.cells.specs.Setting.{Laying}
use borrow.Author.Rules.{rules}
use native.Mathlib.Omega.{arith}
use mathlib.Core.Path.{ap, ◌∙◌}
use Rattle.cells.proofs.Running.{set-none, set-18, set-19, set_runs}
use Rattle.runner.specs.Runner.{accepted}
use Rattle.cells.proofs.run_set.Goals as goal

pub returns-in_default : goal.returns-in_default
returns-in_default c =
    c.run_object.ensures ∙ set-none c.args.source.now c.args.words.now _ _ _ _ _ c.in_default.ensures

pub returns-then-code-gt3 : goal.returns-then-code-gt3
returns-then-code-gt3 c =
    c.run_object-then-code-gt3.ensures ∙ set-18 c.args.source.now c.args.words.now _ _ _ _ _ _ c.in-Some.ensures (omega (arith, c.if-code-gt3.true))

pub returns-then-store-lt-NEEDED : goal.returns-then-store-lt-NEEDED
returns-then-store-lt-NEEDED c =
    c.run_object-then-store-lt-NEEDED.ensures ∙ set-19 c.args.source.now c.args.words.now _ _ _ _ _ _ c.in-Some.ensures (omega (arith, c.if-code-gt3.false)) (omega (arith, c.if-store-lt-NEEDED.true))

pub load-requires : goal.load-requires
load-requires c =
    (search rules, omega (arith, c.if-store-lt-NEEDED.false))

pub started-requires : goal.started-requires
started-requires c =
    (search rules, omega (arith, c.lay.auto.store, c.load.auto.s, c.if-store-lt-NEEDED.false))

pub returns : goal.returns
returns c =
    ap accepted c.started.ensures ∙ rw (ap (λ (l : Laying). l.store) c.lay.ensures, c.load.ensures) (set_runs c.args.source.now c.args.words.now _ _ _ _ _ _ c.in-Some.ensures (omega (arith, c.if-code-gt3.false)) (omega (arith, c.if-store-lt-NEEDED.false)))
