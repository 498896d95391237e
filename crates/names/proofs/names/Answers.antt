-- `names` passes over the tape. Assumes nothing.
use Rattle.names.proofs.Along.{going, roomy, going_on, going_end}
use Rattle.ledger.proofs.Bounds.{narrow_at}
use native.Mathlib.Omega.{arith}
use mathlib.Core.Path.{◌∙◌}
use Rattle.names.proofs.names.Goals as goal

pub open_around-b-requires : goal.open_around-b-requires
open_around-b-requires c =
    omega (arith, c.requires.1.0)

pub loop-e-init : goal.loop-e-init
loop-e-init c =
    going _ _ _ _ c.open_around-b.ensures.0

pub declare_at-requires : goal.declare_at-requires
declare_at-requires c =
    (let f = c.loop-e.invariant.few in omega (arith, c.loop-e-test.true, c.requires.1.0, c.requires.1.1))

pub blocks_after-b-requires : goal.blocks_after-b-requires
blocks_after-b-requires c = (
  roomy _ _ _ _ _ _ _ c.loop-e.invariant
      c.loop-e-test.true (omega (
        arith,
        c.open_around-b.auto.thin,
        c.requires.1.0,
      )) (omega (
        arith,
        c.open_around-b.auto.thin,
        c.requires.1.1,
      )),
  narrow_at c.args.tape.now _ _
      c.loop-e.e-index
      c.requires.0
      c.op-op.ensures.0 c.token-t.ensures.0,
)

pub use_at-requires : goal.use_at-requires
use_at-requires c =
    omega (arith, c.token-t.ensures.1)

pub loop-e-preserved : goal.loop-e-preserved
loop-e-preserved c =
    going_on c.loop-e.invariant _ _ _
    c.loop-e-test.true
    c.op-op.ensures.0
    c.token-t.ensures.0
    c.declare_at.ensures
    c.blocks_after-b.ensures.0 c.blocks_after-b.ensures.1
    c.use_at.ensures c.blocks_after-b.auto.thin
    c.use_at.auto.thin

pub shape_of-thin : goal.shape_of-thin
shape_of-thin c =
    c.loop-e.invariant.same ∙ c.open_around-b.auto.thin

pub returns : goal.returns
returns c =
    going_end c.loop-e.invariant c.args.thin.now
    c.open_around-b.ensures.1 c.loop-e-test.false
