-- `open_around` enters the standard names. Assumes nothing.
use Rattle.names.specs.Flat.{Rising}
use Rattle.names.proofs.Changes.{stays_on, entering, entering-on, entering-end}
use Rattle.ledger.proofs.Columns.{thin-length}
use Rattle.ledger.specs.Book.{thin_of}
use native.Mathlib.Omega.{arith}
use mathlib.Core.Path.{refl, ◌∙◌}
use Rattle.names.proofs.open_around.Goals as goal

pub open_block-b-requires : goal.open_block-b-requires
unfolding Rising
open_block-b-requires c =
    (tt, (omega (arith, thin-length 3 c.args.thin.now), (omega arith, omega arith)))

pub loop-t-init : goal.loop-t-init
loop-t-init c = (
  entering (thin_of c.args.thin.now) _ _ _ refl c.open_block-b.ensures.0
      c.open_block-b.ensures.2.0 c.open_block-b.ensures.2.1,
  refl,
)

pub enter_name-b-requires : goal.enter_name-b-requires
enter_name-b-requires c =
    (let k = c.loop-t.invariant.0.count in (
      c.loop-t.invariant.0.rising,
      (
        omega (arith, thin-length 2 c.loop-t.thin, c.loop-t.invariant.1, c.open_block-b.auto.thin, c.requires),
        (omega arith, omega arith),
      ),
    ))

pub loop-t-preserved : goal.loop-t-preserved
loop-t-preserved c = (
  entering-on c.loop-t.invariant.0 c.loop-t-test.true
      c.enter_name-b.ensures.0 c.enter_name-b.ensures.1 c.enter_name-b.ensures.2.0
      c.enter_name-b.ensures.2.1,
  c.enter_name-b.auto.thin ∙ c.loop-t.invariant.1,
)

pub shape_of-thin : goal.shape_of-thin
shape_of-thin c =
    c.loop-t.invariant.1 ∙ c.open_block-b.auto.thin

pub returns : goal.returns
returns c =
    (entering-end c.loop-t.invariant.0 (omega (arith, c.loop-t-test.false)), stays_on c.open_block-b.ensures.1 c.loop-t.invariant.0.stays)
