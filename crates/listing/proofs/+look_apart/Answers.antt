-- `look_apart` hands a text to the function whose lists have room for it. Assumes nothing.
use native.Mathlib.Omega.{arith}
use Rattle.listing.proofs.+look_apart.Goals as goal

pub returns-then-src-le-TEXT_LIMIT : goal.returns-then-src-le-TEXT_LIMIT
returns-then-src-le-TEXT_LIMIT t c = c.look_in_lists.ensures

pub slice_bounds-look_apart-end : goal.slice_bounds-look_apart-end
slice_bounds-look_apart-end t c = absurd (omega (arith, c.requires, c.if-src-le-TEXT_LIMIT.false))

pub look_apart-requires : goal.look_apart-requires
look_apart-requires t c = absurd (omega (arith, c.requires, c.if-src-le-TEXT_LIMIT.false))

pub returns : goal.returns
returns t c = absurd (omega (arith, c.requires, c.if-src-le-TEXT_LIMIT.false))
