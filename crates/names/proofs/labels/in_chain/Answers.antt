-- `in_chain` finds the first label of a chain with a key. Assumes nothing.
use Rattle.names.proofs.labels.Chains.{after_less, hit, miss, out}
use borrow.Author.Rules.{rules}
use Rattle.ledger.specs.Book.{thin_of}
use native.Mathlib.Omega.{arith}
use mathlib.Core.Path.{refl, sym}
use Rattle.names.proofs.labels.in_chain.Goals as goal

pub loop-l-init : goal.loop-l-init
loop-l-init c =
    ((λ further. refl), search rules)

pub returns-then-value-wanted : goal.returns-then-value-wanted
returns-then-value-wanted c = record {
  is = λ further. sym (hit _ _ _ further c.loop-l.l _ c.loop-l-test.true c.value.ensures c.if-value-wanted.true (c.loop-l.invariant.0 further));
  small = c.loop-l.invariant.1;
}

pub loop-l-smaller : goal.loop-l-smaller
loop-l-smaller c =
    omega (
      arith,
      c.after-l.ensures.0 (thin_of c.args.thin.now).opens
          c.opens.ensures.0,
      after_less (thin_of c.args.thin.now).opens
          c.loop-l.l c.loop-l-test.true,
    )

pub loop-l-preserved : goal.loop-l-preserved
loop-l-preserved c = (
  (λ further. miss _ _ _ further c.loop-l.l _ _ c.loop-l-test.true c.value.ensures c.if-value-wanted.false (c.after-l.ensures.0 _ c.opens.ensures.0)
      (c.loop-l.invariant.0 further)),
  c.after-l.ensures.1,
)

pub returns : goal.returns
returns c =
    record { is = λ further. sym (out _ _ _ further c.loop-l.l c.loop-l-test.false (c.loop-l.invariant.0 further)); small = tt }
