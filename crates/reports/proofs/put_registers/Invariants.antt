-- A line for each register. The invariant: those that were passed are added. Assumes nothing.
use lib.ListN.{take}
use Rattle.figures.specs.Writing.{Puts}
use Rattle.reports.specs.Reports.{registers_text}
use Rattle.reports.proofs.put_registers.Given as goal

abbrev pub invariant-loop-i : goal.invariant-loop-i
invariant-loop-i l = Puts (registers_text 0 (take l.i l.regs)) l.initial.text l.text
