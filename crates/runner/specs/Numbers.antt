-- Document 01, "Numbers answered" and "Runner": the number of each refusal, and the number of each stop.
use Rattle.std.specs.Prelude.{ℕ}
use Rattle.runner.specs.declared.Refusal.{Refusal}
use Rattle.runner.specs.declared.Refusal.TheVariants.{NoObject, BadCode, SmallStorage}
pub use Rattle.machine.specs.Lent.{stop_of}

-- "17 text not exactly of the form above …; 18 code over 3; 19 storage under 20,480 bytes"
abbrev pub number_of : Refusal → ℕ
number_of NoObject = 17
number_of BadCode = 18
number_of SmallStorage = 19
