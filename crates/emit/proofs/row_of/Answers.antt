-- By the kind of the operator. Assumes nothing.
use mathlib.Core.Path.{refl}
use native.Mathlib.Omega.{arith}
use borrow.Author.Tests.{ne_eqb}
use Rattle.base.specs.Runs.{run_len}
use Rattle.token.specs.Kinds as K
use Rattle.emit.proofs.row_of.Goals as goal

pub returns-in-64 : goal.returns-in-64
unfolding run_len
returns-in-64 c =
    rw c.in-64.is (omega arith, refl)

pub returns-in-70 : goal.returns-in-70
unfolding run_len
returns-in-70 c =
    rw c.in-70.is (omega arith, refl)

pub returns-in-71 : goal.returns-in-71
unfolding run_len
returns-in-71 c =
    rw c.in-71.is (omega arith, refl)

pub returns-in-72 : goal.returns-in-72
unfolding run_len
returns-in-72 c =
    rw c.in-72.is (omega arith, refl)

pub returns-in-68 : goal.returns-in-68
unfolding run_len
returns-in-68 c =
    rw c.in-68.is (omega arith, refl)

pub returns-in-69 : goal.returns-in-69
unfolding run_len
returns-in-69 c =
    rw c.in-69.is (omega arith, refl)

pub returns-in-24 : goal.returns-in-24
unfolding run_len
returns-in-24 c =
    rw c.in-24.is (omega arith, refl)

pub returns-in-25 : goal.returns-in-25
unfolding run_len
returns-in-25 c =
    rw c.in-25.is (omega arith, refl)

pub returns-in-26 : goal.returns-in-26
unfolding run_len
returns-in-26 c =
    rw c.in-26.is (omega arith, refl)

pub returns-in_default : goal.returns-in_default
unfolding run_len
returns-in_default c =
    rw (
      ne_eqb K.BECOMES c.args.k (λ e. omega (arith, c.in_default, e)),
      ne_eqb K.PLUS c.args.k (λ e. omega (arith, c.in_default, e)),
      ne_eqb K.MINUS c.args.k (λ e. omega (arith, c.in_default, e)),
      ne_eqb K.TIMES c.args.k (λ e. omega (arith, c.in_default, e)),
      ne_eqb K.ADD-LOGICAL c.args.k (λ e. omega (arith, c.in_default, e)),
      ne_eqb K.SUBTRACT-LOGICAL c.args.k (λ e. omega (arith, c.in_default, e)),
      ne_eqb K.AND c.args.k (λ e. omega (arith, c.in_default, e)),
      ne_eqb K.OR c.args.k (λ e. omega (arith, c.in_default, e)),
      ne_eqb K.XOR c.args.k (λ e. omega (arith, c.in_default, e)),
      run_len,
    )
    (omega arith, refl)
