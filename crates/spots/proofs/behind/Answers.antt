-- `behind` looks for the column only where a line has ended. Assumes nothing.
use Rattle.std.proofs.Common.{◌≡◌, ◌+◌, length, sym, ◌∙◌, arith}
use Rattle.spots.specs.Spots.{line_from, column_from}
use Rattle.spots.proofs.Going.{plain-column, same_line}
use Rattle.spots.proofs.Counting.{line-counted, column-counted}
use Rattle.spots.proofs.behind.Goals as goal

pub returns-then-line-eq1 : goal.returns-then-line-eq1
returns-then-line-eq1 c =
    let s = c.args.s.now in
    let e : 1 + c.newlines-line.result ≡ line_from 1 s = omega (arith, line-counted 1 s, c.newlines-line.ensures.is) in
    let k : column_from 1 s ≡ length s + 1 = plain-column 1 s (same_line 1 s (sym e ∙ c.if-line-eq1.true)) ∙ omega arith in
    rw (e, k)

pub returns : goal.returns
returns c =
    let s = c.args.s.now in
    let e : 1 + c.newlines-line.result ≡ line_from 1 s = omega (arith, line-counted 1 s, c.newlines-line.ensures.is) in
    rw (e, c.since_newline.ensures.is, column-counted s)
