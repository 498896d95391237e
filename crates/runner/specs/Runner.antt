-- Document 01, "Runner": the whole answer to an object text, 16 registers, a condition code, a budget and storage.
use Rattle.std.specs.Prelude.{List, ℕ, ltb, length, Result, Ok, Err}
use Rattle.base.specs.Choose.{choose}
use Rattle.spots.specs.declared.Spot.{Spot}
use Rattle.spots.specs.Spots.{unplaced}
use Rattle.objtext.specs.Object.{Segment, Form, of-object, of_none}
use Rattle.objtext.proofs.Exact.{form}
use Rattle.machine.specs.Space.{needed}
use Rattle.machine.specs.Run as M
use Rattle.machine.specs.Run.{run}
use Rattle.run.specs.declared.Ran.{Ran}
use Rattle.runner.specs.declared.Refusal.{Refusal}
use Rattle.runner.specs.Load.{loaded, space_of, started}
use Rattle.runner.specs.Numbers.{number_of, stop_of}

-- number, place with line and column, stop, counter, registers, code, count, and the whole storage
pub record Outcome : Type 0 where
  pub number : ℕ
  pub spot : Spot
  pub stop : ℕ
  pub counter : ℕ
  pub regs : List ℕ
  pub code : ℕ
  pub count : ℕ
  pub store : List ℕ

-- "place 0, storage untouched, registers and code as given, stop, counter and count 0"; document 02, 2/13: "Success and refusals 1 and 14 to 19 report line and column 0"
abbrev pub refused : ℕ → List ℕ → ℕ → List ℕ → Outcome
refused n regs k s = record { number = n; spot = unplaced 0; stop = 0; counter = 0; regs = regs; code = k; count = 0; store = s }

-- "The result gives stop, counter, registers, code and the count of completed instructions."
abbrev pub accepted : M.Result → Outcome
accepted r =
    record {
      number = 0;
      spot = unplaced 0;
      stop = r.stop;
      counter = r.cpu.counter;
      regs = r.cpu.regs;
      code = r.cpu.code;
      count = r.count;
      store = r.store;
    }

-- "18 code over 3; 19 storage under 20,480 bytes", and else the run of what is loaded
abbrev pub on_object : List Segment → List ℕ → ℕ → ℕ → List ℕ → Outcome
on_object gs regs k budget s =
    choose (ltb 3 k) (refused 18 regs k s)
    (choose (ltb (length s) needed) (refused 19 regs k s) (accepted (run budget (space_of gs) (started regs k) (loaded gs s))))

-- "Refusals, in order …: 17 text not exactly of the form above"
abbrev pub on_form : {text : List ℕ} → Form text → List ℕ → ℕ → ℕ → List ℕ → Outcome
on_form (of-object gs o e) regs k budget s = on_object gs regs k budget s
on_form (of_none n) regs k budget s = refused 17 regs k s

-- every text is of the form or not: `form` tells which
unfoldable pub runner : List ℕ → List ℕ → ℕ → ℕ → List ℕ → Outcome
runner text regs k budget s = on_form (form text) regs k budget s

-- the code's answer in the paper's numbers, to the registers regs and the code k, with the storage as it is left
abbrev pub outcome : Result Ran Refusal → List ℕ → ℕ → List ℕ → Outcome
outcome (Ok q) regs k s =
    record {
      number = 0;
      spot = unplaced 0;
      stop = stop_of q.stop;
      counter = q.counter;
      regs = q.regs;
      code = q.code;
      count = q.count;
      store = s;
    }
outcome (Err r) regs k s =
    record {
      number = number_of r;
      spot = unplaced 0;
      stop = 0;
      counter = 0;
      regs = regs;
      code = k;
      count = 0;
      store = s;
    }
