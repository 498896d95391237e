-- `is_last` makes the definition's tests at places of the text. Assumes nothing.
use native.Mathlib.Omega.{arith}
use lib.ListN.{length-drop}
use borrow.Author.Tests.{eqb-true, eqb-false, eq-eqb, ne_eqb, leb-true, leb-false, le-leb, lt-leb}
use Rattle.objtext.specs.Reader.{is_last}
use Rattle.objtext.proofs.Places.{same_test, last-place}
use Rattle.objtext.proofs.is_last.Goals as goal

-- whether the text ends there, told from its beginning and from the line's
pub returns : goal.returns
unfolding is_last
returns c =
    let t = c.args.t.now in
    let i = c.args.i in
    let d = length-drop i t in
    rw (c.byte_at.ensures.0, c.char_at.ensures)
    (last-place t i
    (same_test _ _ (λ h. omega (arith, eqb-true, leb-true, eq-eqb, le-leb)) (λ h. omega (arith, eqb-false, leb-false, ne_eqb, lt-leb))))
