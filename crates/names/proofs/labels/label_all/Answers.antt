-- `label_all` passes over the tape. Assumes nothing.
use Rattle.names.proofs.labels.Along.{binding, binding-on, binding-end}
use Rattle.ledger.proofs.Bounds.{narrow_at}
use native.Mathlib.Omega.{arith}
use Rattle.names.proofs.labels.label_all.Goals as goal

pub loop-e-init : goal.loop-e-init
loop-e-init c =
    binding _ _ _

pub label_at-requires : goal.label_at-requires
label_at-requires c =
    (let f = c.loop-e.invariant.few in omega (arith, c.loop-e-test.true, c.requires.1))

pub block_after-block-requires : goal.block_after-block-requires
block_after-block-requires c =
    (narrow_at c.args.tape.now _ _ c.loop-e.e-index c.requires.0 c.op-op.ensures.0 c.token-t.ensures.0, c.loop-e.invariant.small)

pub loop-e-preserved : goal.loop-e-preserved
loop-e-preserved c =
    binding-on c.loop-e.invariant _ _
    c.loop-e-test.true
    c.op-op.ensures.0 c.token-t.ensures.0
    c.label_at.ensures c.block_after-block.ensures.0 c.block_after-block.ensures.1
    c.label_at.auto.thin

pub shape_of-thin : goal.shape_of-thin
shape_of-thin c =
    c.loop-e.invariant.same

pub returns : goal.returns
returns c =
    binding-end c.loop-e.invariant c.loop-e-test.false
