-- `lay_tokens` lays a text's tokens over five lists as it reads them, to the last or to a refusal, and counts its place along. The invariant: the place is
-- one of the text; what is read from there on, laid over the lists as they are, is the whole reading laid over the lists as they were. Assumes nothing.
use Prim.Native.Nat.{◌-◌}
use mathlib.Core.Path.{◌≡◌}
use lib.ListN.{length}
use Rattle.spots.specs.Spots.{spot_at}
use Rattle.token.specs.Answers.{lists}
use Rattle.token.proofs.Readings.{Reads, ListsOn}
use Rattle.token_lists.proofs.lay_tokens.Given as goal

abbrev pub invariant-loop-t : goal.invariant-loop-t
invariant-loop-t l =
    (l.at ≡ spot_at l.src l.at.place) × Reads l.src l.at.place l.n
    × ListsOn l.src (lists l.initial.kinds l.initial.values l.initial.places l.initial.lines l.initial.columns) (lists l.kinds l.values l.places l.lines l.columns) l.at.place l.n
    × (length l.kinds ≡ length l.initial.kinds) × (length l.values ≡ length l.initial.values) × (length l.places ≡ length l.initial.places) × (length l.lines ≡ length l.initial.lines)
    × (length l.columns ≡ length l.initial.columns)

abbrev pub decreases-loop-t : goal.decreases-loop-t
decreases-loop-t l =
    length l.src - l.at.place
