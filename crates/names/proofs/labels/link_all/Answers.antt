-- `link_all` passes over the tape. Assumes nothing.
use Rattle.names.proofs.labels.Along.{linking, linking-on, linking-end}
use Rattle.ledger.proofs.Bounds.{narrow_at}
use Rattle.names.proofs.labels.link_all.Goals as goal

pub loop-e-init : goal.loop-e-init
loop-e-init c =
    linking _ _

pub block_after-next-requires : goal.block_after-next-requires
block_after-next-requires c = (
  narrow_at c.args.tape.now _ _
      c.loop-e.e-index c.requires
      c.op-op.ensures.0 c.token-t.ensures.0,
  c.loop-e.invariant.small,
)

pub link-requires : goal.link-requires
link-requires c =
    narrow_at c.args.tape.now _ _ c.loop-e.e-index c.requires c.op-op.ensures.0 c.token-t.ensures.0

pub enclose-requires : goal.enclose-requires
enclose-requires c =
    c.loop-e.invariant.small

pub loop-e-preserved : goal.loop-e-preserved
loop-e-preserved c =
    linking-on c.loop-e.invariant _ _ _
    c.loop-e-test.true
    c.op-op.ensures.0
    c.token-t.ensures.0
    c.block_after-next.ensures.0
    c.link.ensures c.enclose.ensures
    c.block_after-next.ensures.1
    c.link.auto.thin c.enclose.auto.thin

pub shape_of-thin : goal.shape_of-thin
shape_of-thin c =
    c.loop-e.invariant.same

pub returns : goal.returns
returns c =
    linking-end c.loop-e.invariant c.loop-e-test.false
