-- `zero_code` follows the definition's test. Assumes nothing.
use Rattle.std.proofs.Common.{rules}
use Rattle.base.proofs.Tests.{picks}
use Rattle.alu.proofs.zero_code.Goals as goal

pub returns-then-v-eq0 : goal.returns-then-v-eq0
returns-then-v-eq0 c =
    search (picks, rules) depth 9

pub returns-else-v-eq0 : goal.returns-else-v-eq0
returns-else-v-eq0 c =
    search (picks, rules) depth 9
