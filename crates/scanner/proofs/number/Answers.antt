-- `number` tells no digit, a value out of range and a number apart: what is cut off lies above every limit. Assumes nothing.
use mathlib.Core.Bool.{true, false}
use native.Mathlib.Omega.{arith}
use Rattle.scanner.proofs.Spelling.{no_number, big-number, a-number}
use Rattle.scanner.specs.Inner.{bits_of}
use Rattle.scanner.proofs.number.Goals as goal

pub returns-then-size-eq0 : goal.returns-then-size-eq0
returns-then-size-eq0 c =
    no_number _ _ _ c.digits-d.ensures c.if-size-eq0.true

pub returns-then-most-v : goal.returns-then-most-v
returns-then-most-v c =
    big-number _ _ _ c.digits-d.ensures c.if-size-eq0.false c.requires.1 c.if-most-v.true

pub overflow_add-result : goal.overflow_add-result
overflow_add-result c =
    omega (arith, c.digits-d.ensures.fits)

pub returns-then-negative : goal.returns-then-negative
returns-then-negative c =
    rw c.if-negative.true (a-number c.args.most (bits_of true)
    c.args.mark c.digits-d.ensures c.if-size-eq0.false
    c.requires.1 c.if-most-v.false)

pub overflow_add-result-2 : goal.overflow_add-result-2
overflow_add-result-2 c =
    omega (arith, c.digits-d.ensures.fits)

pub returns : goal.returns
returns c =
    rw c.if-negative.false (a-number c.args.most (bits_of false)
    c.args.mark c.digits-d.ensures c.if-size-eq0.false
    c.requires.1 c.if-most-v.false)
