-- `read_tokens` answers for texts that are too long or have no room, and reads all others. Assumes nothing.
use native.Mathlib.Omega.{arith}
use Rattle.token.proofs.Readings.{too_long, no_room, in-room, few-tokens}
use Rattle.token_lists.proofs.read_tokens.Goals as goal

pub returns-then-src-gt-TEXT_LIMIT : goal.returns-then-src-gt-TEXT_LIMIT
returns-then-src-gt-TEXT_LIMIT c =
    too_long _ _ c.if-src-gt-TEXT_LIMIT.true

pub returns-then-room_in-src : goal.returns-then-room_in-src
returns-then-room_in-src c =
    no_room _ c.room_in.ensures c.if-src-gt-TEXT_LIMIT.false c.if-room_in-src.true

pub lay_tokens-requires : goal.lay_tokens-requires
lay_tokens-requires c =
    let s = c.args.src.now in
    (c.if-src-gt-TEXT_LIMIT.false, omega (arith, few-tokens s 0 0 s, c.room_in.ensures, c.if-room_in-src.false))

pub returns : goal.returns
returns c =
    in-room _ c.room_in.ensures c.if-src-gt-TEXT_LIMIT.false c.if-room_in-src.false c.lay_tokens.ensures
