-- `next_token` passes over blanks, then over gaps, to a token, a refusal or the end. The invariant: the next token is that found from here on. Assumes nothing.
use Prim.Native.Nat.{◌≤◌, ◌-◌}
use mathlib.Core.Path.{◌≡◌}
use lib.ListN.{length, take}
use Rattle.spots.specs.Spots.{NoNewline}
use Rattle.token.proofs.Gaps.{from}
use Rattle.token.specs.Text.{next_token}
use Rattle.scanner.proofs.next_token.Given as goal

abbrev pub invariant-loop-at : goal.invariant-loop-at
invariant-loop-at l =
    (l.at ≤ length l.s) × (next_token l.s ≡ from l.at l.s) × (l.blanks ≤ length l.s) × NoNewline (take l.blanks l.s)

abbrev pub decreases-loop-at : goal.decreases-loop-at
decreases-loop-at l =
    length l.s - l.at
