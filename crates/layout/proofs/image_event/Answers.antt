-- `image_event` is a step of the pass, by the event. Assumes nothing.
use Rattle.layout.specs.Along.{imaging_of}
use Rattle.ledger.specs.Book.{wide_of}
use Rattle.layout.proofs.Along.{cell-is, value-is, neither-is}
use Rattle.layout.proofs.image_event.Goals as goal

pub returns-then-op-eq-ITEM : goal.returns-then-op-eq-ITEM
returns-then-op-eq-ITEM c = (
  cell-is c.args.k (wide_of c.args.wide.now)
      c.args.op c.args.t c.args.image.now
      c.args.f c.if-op-eq-ITEM.true c.start_cell.ensures.0,
  c.start_cell.ensures.1,
)

pub returns-then-op-eq-VALUE : goal.returns-then-op-eq-VALUE
returns-then-op-eq-VALUE c = (
  value-is c.args.k
      (wide_of c.args.wide.now)
      c.args.op
      c.args.t
      (imaging_of c.args.image.now
      c.args.f) c.if-op-eq-ITEM.false
      c.if-op-eq-VALUE.true c.value.ensures c.lay_value.ensures.0,
  c.lay_value.ensures.1,
)

pub returns : goal.returns
returns c = (
  neither-is c.args.k (wide_of c.args.wide.now)
      c.args.op c.args.t
      (imaging_of c.args.image.now c.args.f) c.if-op-eq-ITEM.false c.if-op-eq-VALUE.false,
  c.requires,
)
