-- The cell by the ledger, the operand along the tape, and the places of its tokens. Assumes nothing.
use native.Mathlib.Omega.{arith}
use Rattle.listing.proofs.look_settled.Goals as goal

pub span_along-span-requires : goal.span_along-span-requires
span_along-span-requires c =
    omega (arith, c.requires.1)

pub returns : goal.returns
returns c =
    record {
      site-is = c.sites-site.ensures;
      operand-is = rw c.span_along-span.ensures at c.placed-operand.ensures;
    }
