-- `clear_wide` puts 0 in row after row. Assumes nothing.
use Rattle.ledger.proofs.Clearing.{wide-starts, wide-turns, wide-ends}
use native.Mathlib.Omega.{arith}
use mathlib.Core.Path.{refl, ◌∙◌}
use Rattle.ledger.proofs.clear_wide.Goals as goal

pub loop-t-init : goal.loop-t-init
loop-t-init c =
    (wide-starts c.args.wide.now 0 c.args.column, refl)

pub put_wide-requires : goal.put_wide-requires
put_wide-requires c =
    c.requires

pub loop-t-preserved : goal.loop-t-preserved
loop-t-preserved c = (
  wide-turns c.args.wide.now c.loop-t.t
      c.args.column c.loop-t.invariant.0
      c.put_wide.ensures,
  c.put_wide.auto.wide ∙ c.loop-t.invariant.1,
)

pub shape_of-wide : goal.shape_of-wide
shape_of-wide c =
    c.loop-t.invariant.1

pub returns : goal.returns
returns c =
    wide-ends c.args.wide.now c.loop-t.t c.args.column (omega (
      arith,
      c.loop-t-test.false,
      c.loop-t.invariant.1,
    )) c.loop-t.invariant.0
