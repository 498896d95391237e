-- `lay_value` lays a value, unless its place is past the segment. Assumes nothing.
use borrow.Author.Rules.{rules}
use Rattle.layout.proofs.Along.{laid-is, not-laid}
use Rattle.layout.proofs.lay_value.Goals as goal

pub returns-then-f-lt-SEGMENT_LIMIT : goal.returns-then-f-lt-SEGMENT_LIMIT
returns-then-f-lt-SEGMENT_LIMIT c = (
  laid-is c.args.image.now c.args.f
      c.args.v c.if-f-lt-SEGMENT_LIMIT.true c.lay.ensures,
  search rules,
)

pub returns : goal.returns
returns c =
    (not-laid c.args.image.now c.args.f c.args.v c.if-f-lt-SEGMENT_LIMIT.false, search rules)
