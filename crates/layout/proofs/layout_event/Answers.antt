-- `layout_event` is a step of the pass: only a cell is placed. Assumes nothing.
use Rattle.layout.specs.Along.{book_in}
use Rattle.layout.proofs.Along.{item-is, other-is}
use Rattle.layout.proofs.layout_event.Goals as goal

pub returns-then-op-eq-ITEM : goal.returns-then-op-eq-ITEM
returns-then-op-eq-ITEM c =
    item-is c.args.op
    c.args.t _
    c.if-op-eq-ITEM.true c.place_cell.ensures

pub returns-else-op-eq-ITEM : goal.returns-else-op-eq-ITEM
returns-else-op-eq-ITEM c =
    other-is c.args.op c.args.t
    (book_in c.args.wide.now c.args.thin.now c.args.broken.now) c.if-op-eq-ITEM.false
