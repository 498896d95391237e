-- `newlines` counts along the bytes. Assumes nothing.
use Rattle.std.proofs.Common.{eqb, get_or, arith}
use Rattle.std.proofs.lemmas.List.Sums.{count_by_more_yes, count_by_more_no}
use borrow.Author.Tests.{eq-eqb, ne_eqb}
use Rattle.spots.proofs.newlines.Goals as goal
use Rattle.spots.proofs.newlines.Goals.{then-b-eq-NEWLINE, else-b-eq-NEWLINE}

pub loop-b-preserved : goal.loop-b-preserved
loop-b-preserved c =
    let s = c.args.s.now in
    let i = c.loop-b.b-index in
    elim c.if-b-eq-NEWLINE.branch [
      | then-b-eq-NEWLINE w ↦
          let e = count_by_more_yes (λ b. eqb b 10) s i 0 c.loop-b-test.true (eq-eqb (get_or s i 0) 10 w.if-b-eq-NEWLINE.true) in
          record { is = omega (arith, e); fits = omega arith }
      | else-b-eq-NEWLINE w ↦
          let e = count_by_more_no (λ b. eqb b 10) s i 0 c.loop-b-test.true (ne_eqb (get_or s i 0) 10 w.if-b-eq-NEWLINE.false) in
          record { is = omega (arith, e); fits = omega arith }
    ]
