-- Document 01, "Runner": "The result gives stop, counter, registers, code and the count of completed instructions", as it stands in lent memory.
use Rattle.std.specs.Prelude.{List, ℕ, get_or}
use Rattle.spots.specs.Spots.{spot}
use Rattle.runner.specs.Runner.{Outcome}

-- the number answered, and what stands in the registers, the seven results and the storage after the call
abbrev pub lent : ℕ → List ℕ → List ℕ → List ℕ → Outcome
lent number regs results store =
    record {
      number = number;
      spot = spot (get_or results 0 0) (get_or results 1 0) (get_or results 2 0);
      stop = get_or results 3 0;
      counter = get_or results 4 0;
      regs = regs;
      code = get_or results 5 0;
      count = get_or results 6 0;
      store = store;
    }
