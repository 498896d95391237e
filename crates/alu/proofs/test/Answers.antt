-- `test` compares a word with zero. Assumes nothing.
use Rattle.alu.proofs.Signed.{test-made}
use Rattle.alu.proofs.test.Goals as goal

pub returns : goal.returns
returns c =
    test-made _ c.compare.ensures
