-- `after_data` adds the characters of the head and of the content. Assumes nothing.
use native.Mathlib.Omega.{arith}
use borrow.Author.Rules.{rules}
use Rattle.objtext.proofs.Places.{length-place}
use Rattle.objtext.proofs.after_data.Goals as goal

pub content_length-requires : goal.content_length-requires
content_length-requires c =
    omega (arith, c.two_at.ensures.0, length-place c.args.t.now c.args.i)

pub returns : goal.returns
returns c =
    (rw (c.content_length.ensures.0, c.two_at.ensures.0, length-place c.args.t.now c.args.i), search rules)
