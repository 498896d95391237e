-- A line for each register. Assumes nothing.
use borrow.Author.Rules.{rules}
use Rattle.figures.proofs.Writing.{still, called, then}
use Rattle.reports.specs.Reports.{registers_text}
use Rattle.reports.proofs.Registers.{registers-on}
use Rattle.reports.proofs.put_registers.Goals as goal

pub loop-i-init : goal.loop-i-init
unfolding registers_text
loop-i-init c = still

pub loop-i-preserved : goal.loop-i-preserved
loop-i-preserved c = called (registers-on c.args.regs.now c.loop-i.i (search rules)) (then c.loop-i.invariant c.put_register.ensures)
