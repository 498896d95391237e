-- The shape is read from the number, test by test.
use Rattle.base.proofs.Tests.{tests}
use Rattle.tape.specs.Names.{shape_at}
use Rattle.tape.proofs.shape.Goals as goal

pub returns-then-op-eq-BASE : goal.returns-then-op-eq-BASE
unfolding shape_at
returns-then-op-eq-BASE c =
    search tests

pub returns-then-op-eq-CALL : goal.returns-then-op-eq-CALL
unfolding shape_at
returns-then-op-eq-CALL c =
    search tests

pub returns-then-op-eq-APPLIED : goal.returns-then-op-eq-APPLIED
unfolding shape_at
returns-then-op-eq-APPLIED c =
    search tests

pub returns-then-op-eq-CHOSEN : goal.returns-then-op-eq-CHOSEN
unfolding shape_at
returns-then-op-eq-CHOSEN c =
    search tests

pub returns-then-op-lt-TARGET : goal.returns-then-op-lt-TARGET
unfolding shape_at
returns-then-op-lt-TARGET c =
    search tests

pub returns-then-op-lt-ABS : goal.returns-then-op-lt-ABS
unfolding shape_at
returns-then-op-lt-ABS c =
    search tests

pub returns-then-op-lt-FIRST : goal.returns-then-op-lt-FIRST
unfolding shape_at
returns-then-op-lt-FIRST c =
    search tests

pub returns-then-op-lt-BARE : goal.returns-then-op-lt-BARE
unfolding shape_at
returns-then-op-lt-BARE c =
    search tests

pub returns-then-op-lt-ARGUED : goal.returns-then-op-lt-ARGUED
unfolding shape_at
returns-then-op-lt-ARGUED c =
    search tests

pub returns-then-op-lt-SINGLE_FULL : goal.returns-then-op-lt-SINGLE_FULL
unfolding shape_at
returns-then-op-lt-SINGLE_FULL c =
    search tests

pub returns : goal.returns
unfolding shape_at
returns c =
    search tests
