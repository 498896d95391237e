-- `put_message` says where, what and why. Assumes nothing.
use Rattle.figures.proofs.Writing.{called, then}
use borrow.Author.Tests.{eq-eqb, ne_eqb}
use Rattle.messages.proofs.put_message.Goals as goal

pub returns-then-spot-eq0 : goal.returns-then-spot-eq0
returns-then-spot-eq0 c =
    called (rw (eq-eqb _ _ c.if-spot-eq0.true)) (then c.put_all.ensures c.put_head.ensures)

pub returns-else-spot-eq0 : goal.returns-else-spot-eq0
returns-else-spot-eq0 c =
    called (rw (ne_eqb _ _ c.if-spot-eq0.false)) (then c.put_first.ensures c.put_others.ensures)
