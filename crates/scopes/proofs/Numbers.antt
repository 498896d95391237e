-- The group of refusals 6 to 13: every rule has a number in it, those of names, of labels, of kinds and of cells, and so have rules that are joined. Assumes nothing.
use Prim.Native.Nat.{ℕ, ◌≤◌}
use lib.Dec.{lit≤}
use Rattle.std.specs.Prelude.{◌≡◌, Some}
use Rattle.scopes.specs.declared.Refusal.{Refusal}
use Rattle.scopes.specs.declared.Refusal.TheVariants.{NotFound, Twice, Misfit, WrongRegister, Protected, OutOfBounds, NoRoom, TooMany}
use Rattle.scopes.specs.declared.Broken.{Broken}
use Rattle.scopes.specs.Broken.{refusal_number, Ruling}

abbrev pub InGroup : ℕ → Type 0
InGroup n = (6 ≤ n) × (n ≤ 13)

pub in-group : (r : Refusal) → InGroup (refusal_number r)
in-group NotFound = (lit≤ tt, lit≤ tt)
in-group Twice = (lit≤ tt, lit≤ tt)
in-group Misfit = (lit≤ tt, lit≤ tt)
in-group WrongRegister = (lit≤ tt, lit≤ tt)
in-group Protected = (lit≤ tt, lit≤ tt)
in-group OutOfBounds = (lit≤ tt, lit≤ tt)
in-group NoRoom = (lit≤ tt, lit≤ tt)
in-group TooMany = (lit≤ tt, lit≤ tt)

-- what is broken has a number from 6 to 13
pub record Ruled (b : Ruling) : Type 0 where
  pub told : (x : Broken) → b ≡ Some x → InGroup (refusal_number x.refusal)

pub ruled : (b : Ruling) → Ruled b
ruled b = record { told = λ x e. in-group x.refusal }
