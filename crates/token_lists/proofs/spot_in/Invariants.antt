-- `spot_in` reads tokens until it comes to the one that is wanted, or to the last. The invariant: the token wanted is among those still to be read.
-- Assumes nothing.
use Prim.Native.Nat.{◌-◌}
use lib.ListN.{length}
use Rattle.token.proofs.Readings.{Reads}
use Rattle.token.proofs.Seeking.{Seeking}
use Rattle.token_lists.proofs.spot_in.Given as goal

abbrev pub invariant-loop-t : goal.invariant-loop-t
invariant-loop-t l =
    Reads l.src l.at l.n × Seeking l.src l.wanted l.at l.n

abbrev pub decreases-loop-t : goal.decreases-loop-t
decreases-loop-t l =
    length l.src - l.at
