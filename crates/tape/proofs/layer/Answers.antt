-- The layer is read from the number, test by test.
use Rattle.base.proofs.Tests.{tests}
use Rattle.tape.specs.Numbers.{layer_at}
use Rattle.tape.proofs.layer.Goals as goal

pub returns-then-op-lt-REGISTER : goal.returns-then-op-lt-REGISTER
unfolding layer_at
returns-then-op-lt-REGISTER c =
    search tests

pub returns-then-op-lt-PROCEDURE : goal.returns-then-op-lt-PROCEDURE
unfolding layer_at
returns-then-op-lt-PROCEDURE c =
    search tests

pub returns-then-op-lt-LABEL : goal.returns-then-op-lt-LABEL
unfolding layer_at
returns-then-op-lt-LABEL c =
    search tests

pub returns-then-op-eq-LABEL : goal.returns-then-op-eq-LABEL
unfolding layer_at
returns-then-op-eq-LABEL c =
    search tests

pub returns-then-op-lt-WHILE : goal.returns-then-op-lt-WHILE
unfolding layer_at
returns-then-op-lt-WHILE c =
    search tests

pub returns-then-op-eq-CALL : goal.returns-then-op-eq-CALL
unfolding layer_at
returns-then-op-eq-CALL c =
    search tests

pub returns-then-op-eq-GOTO : goal.returns-then-op-eq-GOTO
unfolding layer_at
returns-then-op-eq-GOTO c =
    search tests

pub returns-then-op-lt-APPLIED : goal.returns-then-op-lt-APPLIED
unfolding layer_at
returns-then-op-lt-APPLIED c =
    search tests

pub returns-then-op-lt-SINGLE_FULL : goal.returns-then-op-lt-SINGLE_FULL
unfolding layer_at
returns-then-op-lt-SINGLE_FULL c =
    search tests

pub returns-then-op-le-ARRAY_CHARACTER : goal.returns-then-op-le-ARRAY_CHARACTER
unfolding layer_at
returns-then-op-le-ARRAY_CHARACTER c =
    search tests

pub returns-then-op-eq-CHOSEN : goal.returns-then-op-eq-CHOSEN
unfolding layer_at
returns-then-op-eq-CHOSEN c =
    search tests

pub returns : goal.returns
unfolding layer_at
returns c =
    search tests
