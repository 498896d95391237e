-- `read_kinds` answers for texts that are too long or have no room, and reads all others. Assumes nothing.
use mathlib.Core.Path.{refl}
use native.Mathlib.Omega.{arith}
use Rattle.token.proofs.Readings.{too_long, no_room, in-room}
use Rattle.token_lists.proofs.read_kinds.Goals as goal

pub returns-then-src-gt-TEXT_LIMIT : goal.returns-then-src-gt-TEXT_LIMIT
returns-then-src-gt-TEXT_LIMIT c =
    too_long _ _ c.if-src-gt-TEXT_LIMIT.true

pub returns-then-kinds-needed : goal.returns-then-kinds-needed
returns-then-kinds-needed c =
    no_room _ refl c.if-src-gt-TEXT_LIMIT.false (omega arith)

pub lay_kinds-requires : goal.lay_kinds-requires
lay_kinds-requires c =
    c.if-src-gt-TEXT_LIMIT.false

pub returns : goal.returns
returns c =
    in-room _ refl c.if-src-gt-TEXT_LIMIT.false (omega arith) c.lay_kinds.ensures
