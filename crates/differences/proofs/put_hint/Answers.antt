-- A text that begins with 01 has no hint. Assumes nothing.
use Rattle.figures.proofs.Writing.{called, still}
use Rattle.base.proofs.Tests.{told}
use Rattle.differences.proofs.put_hint.Goals as goal

pub returns-then-not-starts_with : goal.returns-then-not-starts_with
returns-then-not-starts_with c =
    called (rw (told c.starts_with.ensures.value c.if-not-starts_with.true)) c.put_all.ensures

pub returns-else-not-starts_with : goal.returns-else-not-starts_with
returns-else-not-starts_with c =
    called (rw (told c.starts_with.ensures.value c.if-not-starts_with.false)) still
