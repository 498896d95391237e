-- The form is read from the number, test by test; it is not above it.
use native.Mathlib.Omega.{arith}
use Rattle.base.proofs.Tests.{tests}
use Rattle.tape.specs.Numbers.{form_at}
use Rattle.tape.proofs.form.Goals as goal

pub returns-then-op-lt-TARGET : goal.returns-then-op-lt-TARGET
unfolding form_at
returns-then-op-lt-TARGET c =
    (search tests, omega arith)

pub returns-then-op-lt-ABS : goal.returns-then-op-lt-ABS
unfolding form_at
returns-then-op-lt-ABS c =
    (search tests, omega arith)

pub returns-then-op-lt-FIRST : goal.returns-then-op-lt-FIRST
unfolding form_at
returns-then-op-lt-FIRST c =
    (search tests, omega arith)

pub returns-then-op-lt-BARE : goal.returns-then-op-lt-BARE
unfolding form_at
returns-then-op-lt-BARE c =
    (search tests, omega arith)

pub returns-then-op-lt-ARGUED : goal.returns-then-op-lt-ARGUED
unfolding form_at
returns-then-op-lt-ARGUED c =
    (search tests, omega arith)

pub returns-then-op-lt-SINGLE_FULL : goal.returns-then-op-lt-SINGLE_FULL
unfolding form_at
returns-then-op-lt-SINGLE_FULL c =
    (search tests, omega arith)

pub returns-then-op-le-ARRAY_CHARACTER : goal.returns-then-op-le-ARRAY_CHARACTER
unfolding form_at
returns-then-op-le-ARRAY_CHARACTER c =
    (search tests, omega arith)

pub returns : goal.returns
unfolding form_at
returns c =
    (search tests, omega arith)
