-- `lay_kinds` lays the kinds of a text's tokens over a list, as far as there is room, as it reads them, to the last or to a refusal. The invariant: what is read from here on, laid
-- over the list as it is, is the whole reading laid over the list as it was. Assumes nothing.
use Prim.Native.Nat.{◌-◌}
use mathlib.Core.Path.{◌≡◌}
use lib.ListN.{length}
use Rattle.token.specs.Answers.{kind_of}
use Rattle.token.proofs.Readings.{Reads, LaidOn}
use Rattle.token_lists.proofs.lay_kinds.Given as goal

abbrev pub invariant-loop-t : goal.invariant-loop-t
invariant-loop-t l =
    Reads l.src l.at l.n × LaidOn kind_of l.src l.initial.kinds l.kinds l.at l.n × (length l.kinds ≡ length l.initial.kinds)

abbrev pub decreases-loop-t : goal.decreases-loop-t
decreases-loop-t l =
    length l.src - l.at
