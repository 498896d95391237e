-- By the kind of the condition. Assumes nothing.
use native.Mathlib.Omega.{arith}
use borrow.Author.Tests.{ne_eqb}
use Rattle.base.specs.Runs.{run_len}
use Rattle.token.specs.Kinds as K
use Rattle.translation.specs.Instructions.{false_mask}
use Rattle.emit.proofs.false_mask.Goals as goal

pub returns-in-73 : goal.returns-in-73
unfolding false_mask run_len
returns-in-73 c =
    (rw c.in-73.is, omega arith)

pub returns-in-67 : goal.returns-in-67
unfolding false_mask run_len
returns-in-67 c =
    (rw c.in-67.is, omega arith)

pub returns-in-74 : goal.returns-in-74
unfolding false_mask run_len
returns-in-74 c =
    (rw c.in-74.is, omega arith)

pub returns-in-65 : goal.returns-in-65
unfolding false_mask run_len
returns-in-65 c =
    (rw c.in-65.is, omega arith)

pub returns-in-66 : goal.returns-in-66
unfolding false_mask run_len
returns-in-66 c =
    (rw c.in-66.is, omega arith)

pub returns-in-75 : goal.returns-in-75
unfolding false_mask run_len
returns-in-75 c =
    (rw c.in-75.is, omega arith)

pub returns-in-33 : goal.returns-in-33
unfolding false_mask run_len
returns-in-33 c =
    (rw c.in-33.is, omega arith)

pub returns-in_default : goal.returns-in_default
unfolding false_mask run_len
returns-in_default c = (
  rw (
    ne_eqb K.EQUAL c.args.k (λ e. omega (arith, c.in_default, e)),
    ne_eqb K.UNEQUAL c.args.k (λ e. omega (arith, c.in_default, e)),
    ne_eqb K.LESS c.args.k (λ e. omega (arith, c.in_default, e)),
    ne_eqb K.AT-MOST c.args.k (λ e. omega (arith, c.in_default, e)),
    ne_eqb K.AT-LEAST c.args.k (λ e. omega (arith, c.in_default, e)),
    ne_eqb K.MORE c.args.k (λ e. omega (arith, c.in_default, e)),
    ne_eqb K.OVERFLOW c.args.k (λ e. omega (arith, c.in_default, e)),
    run_len,
  ),
  omega arith,
)
