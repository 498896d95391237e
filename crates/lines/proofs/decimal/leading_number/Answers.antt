use Rattle.std.proofs.Common.{rules}
use Rattle.base.proofs.Runs.{run_on, run-stop, run_end}
use Rattle.base.proofs.Tests.{told}
use Rattle.base.specs.Numbers.{number_from}
use Rattle.lines.proofs.Digits.{value_on}
use Rattle.lines.proofs.decimal.leading_number.Goals as goal

pub loop-size-init : goal.loop-size-init
unfolding number_from
loop-size-init c = record { run = search rules; number = search rules }

pub loop-size-preserved : goal.loop-size-preserved
loop-size-preserved c = record {
  run = run_on _ _ _ (search rules) (told c.is_digit.ensures c.if-not-is_digit.false) (search rules);
  number = value_on _ c.args.s.now c.loop-size.size c.loop-size.value c.digit.result _ c.loop-size.invariant.number (search rules)
      c.digit.ensures.0 c.grown-value.ensures;
}

pub returns-then-not-is_digit : goal.returns-then-not-is_digit
returns-then-not-is_digit c =
    record { size = run-stop _ _ _ (search rules) (told c.is_digit.ensures c.if-not-is_digit.true) (search rules); value = search rules; fits = search rules }

pub returns : goal.returns
returns c =
    record { size = run_end _ _ _ (search rules) (search rules); value = search rules; fits = search rules }
