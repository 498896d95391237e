-- `is_data` tests the length first, then the head, then the content. Assumes nothing.
use mathlib.Core.Path.{◌∙◌}
use native.Mathlib.Omega.{arith}
use Rattle.base.proofs.Tests.{never_true}
use Rattle.objtext.proofs.Places.{length-place, long-data, no-data, data-place}
use Rattle.objtext.proofs.is_data.Goals as goal

pub returns-then-n-gt-DATA_LIMIT : goal.returns-then-n-gt-DATA_LIMIT
returns-then-n-gt-DATA_LIMIT c = (
  long-data c.args.t.now c.args.i c.args.k (omega (
    arith,
    c.two_at-n.ensures.0,
    length-place c.args.t.now c.args.i,
  )),
  λ e. never_true e,
)

pub returns-then-is_line-byte_at : goal.returns-then-is_line-byte_at
returns-then-is_line-byte_at c =
    (let e = c.two_at-n.ensures.0 ∙ length-place c.args.t.now c.args.i in (
      c.is_content.ensures ∙ rw e (data-place c.args.t.now c.args.i c.args.k
          (rw (
            c.is_line.ensures,
            c.byte_at.ensures.0,
            c.byte_at-2.ensures.0,
            c.two_at-n.ensures.0,
            c.two_at-from.ensures.0,
            c.two_at-to.ensures.0,
          ) at c.if-is_line-byte_at.true) (omega (arith, e))),
      λ q. omega (arith, e),
    ))

pub returns : goal.returns
returns c = (
  no-data c.args.t.now
      c.args.i
      c.args.k (rw (
        c.is_line.ensures,
        c.byte_at.ensures.0,
        c.byte_at-2.ensures.0,
        c.two_at-n.ensures.0,
        c.two_at-from.ensures.0,
        c.two_at-to.ensures.0,
      ) at c.if-is_line-byte_at.false),
  λ e. never_true e,
)
