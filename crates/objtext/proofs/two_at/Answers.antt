-- `two_at` joins the bytes of two places. Assumes nothing.
use borrow.Author.Rules.{rules}
use Rattle.objtext.proofs.Places.{two-place}
use Rattle.objtext.proofs.two_at.Goals as goal

pub returns : goal.returns
returns c =
    (rw (c.byte_at.ensures.0, c.byte_at-2.ensures.0) (two-place c.args.t.now c.args.i), search rules)
