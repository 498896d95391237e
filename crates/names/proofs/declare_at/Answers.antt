-- `declare_at` declares at the events that declare. Assumes nothing.
use Rattle.names.specs.Naming.{declare_at}
use Rattle.base.proofs.Tests.{told}
use Rattle.names.proofs.declare_at.Goals as goal

pub returns-then-declares : goal.returns-then-declares
unfolding declare_at
returns-then-declares c =
    λ found. rw (told c.declares.ensures c.if-declares.true) (c.declare_name.ensures found)

pub returns-else-declares : goal.returns-else-declares
unfolding declare_at
returns-else-declares c =
    λ found. rw (told c.declares.ensures c.if-declares.false)
