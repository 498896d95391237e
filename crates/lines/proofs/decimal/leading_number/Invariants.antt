-- `leading_number` counts the digits at the front and gives their number, cut off. The invariant: the run goes on from here, and the number so far is that of the digits passed. Assumes nothing.
use Rattle.std.proofs.Common.{◌≡◌, ◌+◌, ◌-◌, ◌^◌, min, take, drop}
use Rattle.base.specs.Numbers.{number_from}
use Rattle.base.specs.Runs.{run_len}
use Rattle.lines.specs.Decimal.{is_digit, digit_of}
use Rattle.lines.proofs.decimal.leading_number.Given as goal

abbrev pub invariant-loop-size : goal.invariant-loop-size
invariant-loop-size l = record {
  run : run_len is_digit l.s ≡ l.size + run_len is_digit (drop l.size l.s);
  number : l.value ≡ min (2 ^ 64 - 1) (number_from digit_of 10 0 (take l.size l.s));
}
