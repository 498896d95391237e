-- The run with cells set, by the count of segments that the code reads: refused as the runner does, or the run of what is loaded and laid. Assumes nothing.
use Prim.Native.Nat.{ℕ, ◌<◌, ◌≤◌}
use mathlib.Core.Path.{◌≡◌, sym, ap, ◌∙◌}
use mathlib.Core.List.{List}
use mathlib.Core.Option.{Option, some}
use lib.ListN.{length}
use borrow.Author.Tests.{lt-ltb, le-ltb}
use Rattle.std.specs.Prelude as P
use Rattle.objtext.specs.Object.{Segment}
use Rattle.objtext.specs.Reader.{segment_list, read_as, read_object}
use Rattle.objtext.proofs.Walks.{read_as_lem}
use Rattle.machine.specs.Space.{needed}
use Rattle.machine.specs.Run.{run}
use Rattle.runner.specs.Load.{loaded, space_of, started}
use Rattle.runner.specs.Runner.{accepted, runner}
use Rattle.cells.specs.Setting.{laid_by}
use Rattle.cells.specs.Running.{on_object, run_set}

module _ (source words text regs : List ℕ) (k budget : ℕ) (s : List ℕ) where
  pub set-none : read_as P.None text ≡ read_object text → runner text regs k budget s ≡ run_set source words text regs k budget s
  unfolding run_set read_as
  set-none e = rw (← e)

  module _ (n : ℕ) (e : read_as (P.Some n) text ≡ read_object text) where
    counted : run_set source words text regs k budget s ≡ on_object source words (some (segment_list n text)) text regs k budget s
    unfolding run_set
    counted = ap (λ (o : Option (List Segment)). on_object source words o text regs k budget s) (read_as_lem n text e)

    pub set-18 : 3 < k → runner text regs k budget s ≡ run_set source words text regs k budget s
    set-18 l = sym (counted ∙ rw (lt-ltb 3 k l))

    pub set-19 : k ≤ 3 → length s < needed → runner text regs k budget s ≡ run_set source words text regs k budget s
    set-19 l m = sym (counted ∙ rw (le-ltb 3 k l, lt-ltb (length s) needed m))

    pub set_runs : k ≤ 3 → needed ≤ length s
        → accepted (run budget (space_of (segment_list n text)) (started regs k) (laid_by source words (loaded (segment_list n text) s)).store) ≡ run_set source words text regs k budget s
    set_runs l m = sym (counted ∙ rw (le-ltb 3 k l, le-ltb (length s) needed m))
