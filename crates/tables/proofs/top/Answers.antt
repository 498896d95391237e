-- Why `top` meets its contract.
use Rattle.tables.proofs.Stacks.{top-none, top-some}
use Rattle.tables.proofs.top.Goals as goal

pub returns-then-d-eq0 : goal.returns-then-d-eq0
returns-then-d-eq0 c =
    top-none _ _ c.if-d-eq0.true

pub returns : goal.returns
returns c =
    rw c.key.ensures (top-some _ _ c.if-d-eq0.false)
