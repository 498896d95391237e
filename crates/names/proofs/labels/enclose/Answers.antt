-- `enclose` is the definition's, case by case. Assumes nothing.
use Rattle.names.specs.Linking.{outer_after}
use Rattle.names.proofs.labels.enclose.Goals as goal

pub returns-then-op : goal.returns-then-op
unfolding outer_after
returns-then-op c =
    rw c.if-op.true c.put_written.ensures

pub returns-else-op : goal.returns-else-op
unfolding outer_after
returns-else-op c =
    rw c.if-op.false
