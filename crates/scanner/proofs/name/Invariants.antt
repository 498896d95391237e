-- `name` counts the characters of a name and makes its key. The invariant: the name goes on from here, and the key so far is that of the characters passed.
-- Assumes nothing.
use Rattle.std.proofs.Common.{◌≡◌, ◌+◌, take, drop}
use Rattle.base.specs.Runs.{run_len}
use Rattle.token.specs.Text.{key_of}
use Rattle.scanner.specs.Inner.{in_base}
use Rattle.scanner.proofs.name.Given as goal

abbrev pub invariant-loop-size : goal.invariant-loop-size
invariant-loop-size l =
    record {
      run : run_len (in_base 36) l.s ≡ l.size + run_len (in_base 36) (drop l.size l.s);
      key : l.value ≡ key_of (take l.size l.s);
    }
