-- A source translated, loaded and run: the whole answer by the definitions of the translation and of the runner.
use Rattle.std.specs.Prelude.{List, ℕ, eqb, ltb, length, take, Result, Ok, Err}
use Rattle.base.specs.Choose.{choose}
use Rattle.spots.specs.declared.Spot.{Spot}
use Rattle.spots.specs.Spots.{unplaced}
use Rattle.machine.specs.Space.{needed}
use Rattle.translation.specs.Translate as T
use Rattle.translation.specs.Translate.{translate, leaves}
use Rattle.runner.specs.Numbers.{stop_of}
use Rattle.runner.specs.Runner as R
use Rattle.runner.specs.Runner.{runner}
use Rattle.load_and_go.specs.declared.Went.{Went}
use Rattle.load_and_go.specs.declared.Refused.{Refused}

-- number and place with line and column; the length of the object text; stop, counter, registers, code and count; the whole buffer and the whole storage
pub record Outcome : Type 0 where
  pub number : ℕ
  pub spot : Spot
  pub length : ℕ
  pub stop : ℕ
  pub counter : ℕ
  pub regs : List ℕ
  pub code : ℕ
  pub count : ℕ
  pub buffer : List ℕ
  pub store : List ℕ

-- a refusal: nothing is run, buffer and storage are as they were
abbrev pub not_run : ℕ → Spot → List ℕ → ℕ → List ℕ → List ℕ → Outcome
not_run n p regs k b s =
    record { number = n; spot = p; length = 0; stop = 0; counter = 0; regs = regs; code = k; count = 0; buffer = b; store = s }

-- the runner's answer on an object text of n bytes at the front of the buffer b
abbrev pub ran : ℕ → List ℕ → R.Outcome → Outcome
ran n b r =
    record {
      number = r.number;
      spot = r.spot;
      length = n;
      stop = r.stop;
      counter = r.counter;
      regs = r.regs;
      code = r.code;
      count = r.count;
      buffer = b;
      store = r.store;
    }

-- after the translation: "Accepted is 0", and then the object text at the front of the buffer is run
unfoldable pub gone : (source : List ℕ) → T.Answer → List ℕ → ℕ → ℕ → List ℕ → List ℕ → Outcome
gone source a regs k budget buffer s =
    let n = T.length_of a in
    let b = leaves a buffer in
    choose (eqb (T.number_of a) 0) (ran n b (runner (take n b) regs k budget s)) (not_run (T.number_of a) (T.spot_of source a) regs k buffer s)

-- The answer to a source, 16 registers, a condition code, a budget, a buffer for the object text, and storage: 18 and 19 first, then 1 to 16. (17 is no answer:
-- what the translator writes is an object text.)
unfoldable pub load_and_go : List ℕ → List ℕ → ℕ → ℕ → List ℕ → List ℕ → Outcome
load_and_go source regs k budget buffer s =
    choose (ltb 3 k) (not_run 18 (unplaced 0) regs k buffer s)
    (choose (ltb (length s) needed) (not_run 19 (unplaced 0) regs k buffer s) (gone source (translate source (length buffer)) regs k budget buffer s))

-- the code's answer in the paper's numbers, to the registers regs and the code k, with buffer and storage as they are left
abbrev pub outcome : Result Went Refused → List ℕ → ℕ → List ℕ → List ℕ → Outcome
outcome (Ok w) regs k b s =
    record {
      number = 0;
      spot = unplaced 0;
      length = w.length;
      stop = stop_of w.ran.stop;
      counter = w.ran.counter;
      regs = w.ran.regs;
      code = w.ran.code;
      count = w.ran.count;
      buffer = b;
      store = s;
    }
outcome (Err r) regs k b s =
    record {
      number = r.number;
      spot = r.spot;
      length = 0;
      stop = 0;
      counter = 0;
      regs = regs;
      code = k;
      count = 0;
      buffer = b;
      store = s;
    }
