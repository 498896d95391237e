-- `digits` counts the digits at the front and gives their number, cut off. The invariant: the run goes on from here, and the number so far is that of
-- the digits passed. Assumes nothing.
use Rattle.std.proofs.Common.{◌≡◌, ◌+◌, ◌^◌, min, take, drop}
use Rattle.base.specs.Numbers.{number_from}
use Rattle.base.specs.Runs.{run_len}
use Rattle.scanner.specs.Inner.{in_base}
use Rattle.token.specs.Text.{digit_of}
use Rattle.scanner.proofs.digits.Given as goal

abbrev pub invariant-loop-size : goal.invariant-loop-size
invariant-loop-size l =
    record {
      run : run_len (in_base l.base) l.s ≡ l.size + run_len (in_base l.base) (drop l.size l.s);
      value : l.value ≡ min (2 ^ 52) (number_from digit_of l.base 0 (take l.size l.s));
    }
