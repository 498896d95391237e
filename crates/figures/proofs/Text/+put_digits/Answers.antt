-- `put_digits` writes the digits in front, then the last. Assumes nothing.
use Rattle.figures.proofs.Numerals.{numeral-none, numeral-short, numeral-long}
use Rattle.figures.proofs.Writing.{called, still, then}
use Rattle.figures.proofs.Text.+put_digits.Goals as goal

pub returns-then-k-eq0 : goal.returns-then-k-eq0
returns-then-k-eq0 t c = called (numeral-none _ _ _ _ c.if-k-eq0.true) still

pub returns-then-n-base : goal.returns-then-n-base
returns-then-n-base t c =
    called (rw c.digit-last.ensures (numeral-short _ _ _ _ c.if-k-eq0.false c.if-n-base.true)) c.put.ensures

pub returns : goal.returns
returns t c =
    called (rw (c.digit-last.ensures, c.saturating_sub.ensures) (numeral-long _ _ _ _ c.if-k-eq0.false c.if-n-base.false))
    (then c.put_digits.ensures c.put-2.ensures)
