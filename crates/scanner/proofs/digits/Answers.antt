-- `digits` counts the digits at the front and gives their number, cut off. Assumes nothing.
use mathlib.Core.Path.{◌≡◌, sym, ◌∙◌}
use lib.ListN.{length}
use native.Mathlib.Nat.{mul-le-mul_left}
use native.Mathlib.Omega.{arith}
use borrow.Author.Rules.{rules}
use Rattle.base.proofs.Tests.{tests}
use Rattle.base.proofs.Runs.{run_on, run-stop, run_end}
use Rattle.base.specs.Numbers.{number_from}
use Rattle.scanner.proofs.Spelling.{value_on}
use Rattle.scanner.proofs.digits.Goals as goal

pub loop-size-init : goal.loop-size-init
unfolding number_from
loop-size-init c =
    record { run = search rules; value = search rules }

pub returns-then-base-d : goal.returns-then-base-d
returns-then-base-d c =
    record {
      size = run-stop _ _ _ c.loop-size-test.true (rw (← c.digit-d.ensures.0) (search tests)) c.loop-size.invariant.run;
      value = c.loop-size.invariant.value;
      fits = search rules;
    }

pub overflow_mul-value : goal.overflow_mul-value
overflow_mul-value c =
    omega (arith, mul-le-mul_left c.loop-size.value c.requires, c.loop-size.invariant.value)

pub overflow_add-value : goal.overflow_add-value
overflow_add-value c =
    omega (arith, mul-le-mul_left c.loop-size.value c.requires, c.loop-size.invariant.value)

pub loop-size-preserved : goal.loop-size-preserved
loop-size-preserved c = record {
  run = run_on _ _ _ c.loop-size-test.true (rw (← c.digit-d.ensures.0) (search tests)) c.loop-size.invariant.run;
  value =
      value_on _ c.args.base c.args.s.now c.loop-size.size c.loop-size.value c.digit-d.result _
      c.loop-size.invariant.value c.loop-size-test.true c.digit-d.ensures.0 (search rules);
}

pub returns : goal.returns
returns c =
    let e : c.loop-size.size ≡ length c.args.s.now = omega arith in
    record {
      size = sym e ∙ run_end _ _ _ (omega arith) c.loop-size.invariant.run;
      value = rw e at c.loop-size.invariant.value;
      fits = omega arith;
    }
