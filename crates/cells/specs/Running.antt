-- The run of an object text whose cells are set when it is loaded.
use Rattle.std.specs.Prelude.{List, ℕ, ltb, length}
use Rattle.std.proofs.Math.Option.{Option, none, some}
use Rattle.base.specs.Choose.{choose}
use Rattle.objtext.specs.Object.{Segment}
use Rattle.objtext.specs.Reader.{read_object}
use Rattle.machine.specs.Space.{needed}
use Rattle.machine.specs.Run.{run}
use Rattle.runner.specs.Load.{loaded, space_of, started}
use Rattle.runner.specs.Runner.{Outcome, accepted, runner}
use Rattle.cells.specs.Setting.{laid_by}

-- "put into the storage after loading and before the first instruction"; what the runner refuses is refused as it does
module _ (source words : List ℕ) where
  abbrev pub on_object : Option (List Segment) → (text regs : List ℕ) (k budget : ℕ) → List ℕ → Outcome
  on_object none text regs k budget s = runner text regs k budget s
  on_object (some gs) text regs k budget s =
      choose (ltb 3 k) (runner text regs k budget s)
      (choose (ltb (length s) needed) (runner text regs k budget s)
      (accepted (run budget (space_of gs) (started regs k) (laid_by source words (loaded gs s)).store)))

  unfoldable pub run_set : (text regs : List ℕ) (k budget : ℕ) → List ℕ → Outcome
  run_set text regs k budget s = on_object (read_object text) text regs k budget s
