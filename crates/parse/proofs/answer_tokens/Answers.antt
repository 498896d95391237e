-- `answer_tokens` tells the verdict by what the program's reader answered. Assumes nothing.
use native.Mathlib.Omega.{arith}
use borrow.Author.Rules.{rules}
use lib.ListN.{length-take}
use Rattle.parse.proofs.Texts.{few, accepted-as, refused_as}
use Rattle.parse.proofs.answer_tokens.Goals as goal

pub slice_bounds-program-end : goal.slice_bounds-program-end
slice_bounds-program-end c =
    omega (arith, length-take c.args.n c.args.kinds.now, c.requires.0.inside)

pub program-requires : goal.program-requires
program-requires c =
    let h = few _ _ _ c.requires.0 in
    (search rules, (omega (arith, h.0, c.requires.1), omega (arith, h.1)))

pub returns-in-Ok : goal.returns-in-Ok
returns-in-Ok c =
    accepted-as _ _ _ c.requires.0 c.in-Ok.ensures.is

pub spot_in-spot-requires : goal.spot_in-spot-requires
spot_in-spot-requires c =
    c.requires.0.accepted

pub returns-in-Unexpected : goal.returns-in-Unexpected
returns-in-Unexpected c =
    refused_as _ _ _ c.requires.0 4 (rw c.in-Unexpected.is at c.in-Err.ensures.is) c.spot_in-spot.ensures

pub returns-in-TooDeep : goal.returns-in-TooDeep
returns-in-TooDeep c =
    refused_as _ _ _ c.requires.0 5 (rw c.in-TooDeep.is at c.in-Err.ensures.is) c.spot_in-spot.ensures
