-- The chain of calls at a point: every point on it holds in the registers as they are now. Register 15 is no part of it: it belongs to the instruction at the counter.
use mathlib.Core.Path.{◌≡◌}
use mathlib.Core.List.{List}
use mathlib.Core.Option.{none, some}
use Prim.Native.Nat.{ℕ, ◌+◌, ◌%◌, ◌^◌}
use Rattle.base.specs.Lists.{◌∈◌}
use Rattle.static_rules.specs.Meaning.{Based}
use Rattle.machine.specs.Space.{origin}
use Rattle.translation.specs.Instructions.{link}
use Rattle.join.specs.Points.{Point, Placed}
use Rattle.join.proofs.Safe.{Guarded}
use Rattle.join.proofs.Flows.{Calls}

-- the data bases in force hold their segments' origins
abbrev pub Holds : (ℕ → ℕ) → Point → Type 0
Holds reg p = (b : Based) → b ∈ p.bases → reg b.register ≡ origin b.segment

-- the address after the instruction y, which is a call
abbrev pub after_call : Placed → ℕ
after_call y = origin y.segment + (y.at + 4)

-- in no procedure; or in the procedure that the instruction y called, whose return register holds the address after y
pub data Chain (n : ℕ) (w : List Placed) (reg : ℕ → ℕ) : Point → Type 0 where
  outermost : {p : Point} → p.within ≡ none → Guarded n p → Holds reg p → Chain n w reg p
  called :
      {p : Point} (y : Placed) (r t : ℕ) (k : Calls w y r t) → y ∈ w → y.instruction ≡ link r t → p.within ≡ some k.v → Guarded n p → Holds reg p
      → reg r % 2 ^ 24 ≡ after_call y → Chain n w reg y.point → Chain n w reg p
