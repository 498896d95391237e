-- `clear_thin` puts 0 in row after row. Assumes nothing.
use Rattle.ledger.proofs.Clearing.{thin-starts, thin-turns, thin-ends}
use native.Mathlib.Omega.{arith}
use mathlib.Core.Path.{refl, ◌∙◌}
use Rattle.ledger.proofs.clear_thin.Goals as goal

pub loop-t-init : goal.loop-t-init
loop-t-init c =
    (thin-starts c.args.thin.now 0 c.args.column, refl)

pub put_thin-requires : goal.put_thin-requires
put_thin-requires c =
    (c.requires, omega arith)

pub loop-t-preserved : goal.loop-t-preserved
loop-t-preserved c = (
  thin-turns c.args.thin.now c.loop-t.t
      c.args.column c.loop-t.invariant.0
      c.put_thin.ensures,
  c.put_thin.auto.thin ∙ c.loop-t.invariant.1,
)

pub shape_of-thin : goal.shape_of-thin
shape_of-thin c =
    c.loop-t.invariant.1

pub returns : goal.returns
returns c =
    thin-ends c.args.thin.now c.loop-t.t c.args.column (omega (
      arith,
      c.loop-t-test.false,
      c.loop-t.invariant.1,
    )) c.loop-t.invariant.0
