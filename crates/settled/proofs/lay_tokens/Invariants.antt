-- `lay_tokens` lays a text's tokens behind the names, to the last or to a refusal. The invariant: what is read from here on, laid over the lists as they are, is the
-- whole reading laid over the lists as they were. Assumes nothing.
use Rattle.settled.proofs.Reading.{Underway}
use Rattle.ledger.specs.Book.{wide_of}
use lib.ListN.{length}
use mathlib.Core.Path.{◌≡◌}
use Prim.Native.Nat.{◌-◌}
use Rattle.settled.proofs.lay_tokens.Given as goal

abbrev pub invariant-loop-t : goal.invariant-loop-t
invariant-loop-t l =
    Underway l.src l.initial.kinds l.kinds (wide_of l.initial.wide) (wide_of l.wide) l.at l.n × (length l.kinds ≡ length l.initial.kinds) × (length l.wide ≡ length l.initial.wide)

abbrev pub decreases-loop-t : goal.decreases-loop-t
decreases-loop-t l =
    length l.src - l.at
