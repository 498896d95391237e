-- `thin_at` reads the row, or 0 past the end; an element has 16 bits. Assumes nothing.
use Rattle.ledger.proofs.Columns.{thin-read, thin-past}
use native.Mathlib.Omega.{arith}
use Prim.Native.Nat.{◌*◌, ◌+◌}
use Rattle.ledger.proofs.thin_at.Goals as goal

pub overflow_cast-result : goal.overflow_cast-result
overflow_cast-result c =
    omega (arith, c.shared_slice_known-1.given (c.args.t * 4 + c.args.column))

pub returns-then-t-thin : goal.returns-then-t-thin
returns-then-t-thin c = (
  thin-read c.args.thin.now c.args.t c.args.column c.requires
      c.if-t-thin.true,
  omega (arith, c.shared_slice_known-1.given (c.args.t * 4 + c.args.column)),
)

pub returns : goal.returns
returns c =
    (thin-past c.args.thin.now c.args.t c.args.column c.if-t-thin.false, omega arith)
