-- `lookup` finds the label that a key means. Assumes nothing.
use Rattle.names.proofs.labels.Chains.{after_less, find-in, find-end}
use Rattle.ledger.specs.Book.{thin_of}
use native.Mathlib.Omega.{arith}
use mathlib.Core.Path.{refl, sym, ◌∙◌}
use Rattle.names.proofs.labels.lookup.Goals as goal

pub loop-b-init : goal.loop-b-init
loop-b-init c =
    refl

pub returns-in-Some : goal.returns-in-Some
returns-in-Some c = (
  sym (c.loop-b.invariant ∙ (find-in _ _ _ _ c.loop-b.b _ c.loop-b-test.true c.opens.ensures.0 ∙ sym (c.in-Some.ensures.is _))),
  c.in-Some.ensures.small,
)

pub loop-b-smaller : goal.loop-b-smaller
loop-b-smaller c =
    omega (
      arith,
      c.after-b.ensures.0 (thin_of c.args.thin.now).written c.written.ensures.0,
      after_less (thin_of c.args.thin.now).written c.loop-b.b c.loop-b-test.true,
    )

pub loop-b-preserved : goal.loop-b-preserved
loop-b-preserved c =
    rw (c.after-b.ensures.0 _ c.written.ensures.0)
    (c.loop-b.invariant ∙ (find-in _ _ _ _ c.loop-b.b _ c.loop-b-test.true c.opens.ensures.0 ∙ sym (c.in-None.ensures.is _)))

pub returns : goal.returns
returns c =
    (sym (c.loop-b.invariant ∙ find-end _ _ _ _ c.loop-b.b c.loop-b-test.false), omega arith)
