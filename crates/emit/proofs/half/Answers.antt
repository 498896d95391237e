-- By the opcode. Assumes nothing.
use Rattle.base.proofs.Tests.{told}
use Rattle.emit.proofs.half.Goals as goal

pub returns-then-is_immediate : goal.returns-then-is_immediate
returns-then-is_immediate c =
    rw (told c.is_immediate.ensures c.if-is_immediate.true)

pub returns : goal.returns
returns c =
    rw (told c.is_immediate.ensures c.if-is_immediate.false)
