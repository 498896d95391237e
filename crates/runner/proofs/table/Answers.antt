-- `table` enters each word. Assumes nothing.
use Rattle.runner.proofs.Loads.{table_on, table-end, table-start}
use Rattle.runner.proofs.table.Goals as goal

pub loop-k-init : goal.loop-k-init
loop-k-init c =
    table-start c.args.l c.args.count c.args.s.now

pub loop-k-preserved : goal.loop-k-preserved
loop-k-preserved c =
    rw c.table_word.ensures (table_on c.args.l c.args.count c.loop-k.k c.loop-k.s c.loop-k-test.true c.loop-k.invariant)

pub returns : goal.returns
returns c =
    table-end c.args.count c.loop-k.k c.loop-k-test.false c.args.l c.loop-k.s c.loop-k.invariant
