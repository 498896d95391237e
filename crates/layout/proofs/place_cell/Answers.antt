-- `place_cell` places a cell: the facts of its calls are the fields of `place_by`, in the ledger. Assumes nothing.
use Rattle.ledger.specs.Book.{wide_of, thin_of}
use Rattle.layout.proofs.Along.{place_is, cell-small}
use native.Mathlib.Omega.{arith}
use Rattle.layout.proofs.place_cell.Goals as goal

pub overflow_mul-end : goal.overflow_mul-end
overflow_mul-end c =
    omega (
      arith,
      cell-small c.element_size-size.result c.number.result
          c.element_size-size.ensures.2 c.number.ensures.1,
    )

pub overflow_add-end : goal.overflow_add-end
overflow_add-end c =
    omega (
      arith,
      cell-small c.element_size-size.result c.number.result
          c.element_size-size.ensures.2 c.number.ensures.1,
      c.round_up-start.ensures.1,
      c.written.ensures.1,
    )

pub returns : goal.returns
returns c =
    place_is (wide_of c.args.wide.now) (thin_of c.args.thin.now) c.args.t c.args.broken.now c.mean-m.ensures
    c.element_size-size.ensures.0 c.segment-k.ensures.0 c.written.ensures.0 c.round_up-start.ensures.0
    c.number.ensures.0 c.put_offset.ensures c.cap.ensures.0 c.put_written.ensures
    c.rule.ensures c.join_to.ensures
