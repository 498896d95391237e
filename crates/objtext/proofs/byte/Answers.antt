-- `byte` joins the digits of two places, where both are digits. Assumes nothing.
use Rattle.objtext.proofs.Places.{no-high, no-low, both_digits}
use Rattle.objtext.proofs.byte.Goals as goal

pub returns-in_err-high : goal.returns-in_err-high
returns-in_err-high c =
    rw c.from_residual.ensures (no-high c.args.t.now c.args.i (rw c.char_at.ensures at c.in_err-high.ensures))

pub returns-in_err-low : goal.returns-in_err-low
returns-in_err-low c =
    rw c.from_residual-in_err-low.ensures
    (no-low c.args.t.now c.args.i c.in_ok-high.high (rw c.char_at.ensures at c.in_ok-high.ensures) (rw c.char_at-2.ensures at c.in_err-low.ensures))

pub returns : goal.returns
returns c =
    both_digits c.args.t.now c.args.i c.in_ok-high.high (rw c.char_at.ensures at c.in_ok-high.ensures) c.in_ok-low.low (rw c.char_at-2.ensures at c.in_ok-low.ensures)
