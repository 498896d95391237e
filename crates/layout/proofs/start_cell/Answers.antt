-- `start_cell` is where the values of a cell of the segment go, and nowhere for another. Assumes nothing.
use Rattle.ledger.specs.Book.{wide_of}
use Rattle.layout.proofs.Along.{started-is, elsewhere-is}
use borrow.Author.Rules.{rules}
use Rattle.layout.proofs.start_cell.Goals as goal

pub returns-then-segment-k : goal.returns-then-segment-k
returns-then-segment-k c = (
  started-is c.args.k
      (wide_of c.args.wide.now) c.args.t
      c.segment.ensures.0 c.if-segment-k.true c.offset.ensures
      c.mean.ensures c.element_size.ensures.0,
  search rules,
)

pub returns : goal.returns
returns c = (
  elsewhere-is c.args.k (wide_of c.args.wide.now) c.args.t
      c.segment.ensures.0 c.if-segment-k.false,
  search rules,
)
