-- `extend` follows the definition's tests; a half word with its sign fits. Assumes nothing.
use native.Mathlib.Omega.{arith}
use borrow.Author.Rules.{rules}
use Rattle.base.proofs.Tests.{picks}
use Rattle.machine.proofs.Operands.{half-word}
use Rattle.machine.proofs.extend.Goals as goal

pub overflow_add-result : goal.overflow_add-result
overflow_add-result c =
    omega (arith, half-word c.requires c.if-n-eq2.true)

pub returns-then-v-lt32768 : goal.returns-then-v-lt32768
returns-then-v-lt32768 c =
    search (picks, rules) depth 9

pub returns-else-v-lt32768 : goal.returns-else-v-lt32768
returns-else-v-lt32768 c =
    search (picks, rules) depth 9

pub returns-else-n-eq2 : goal.returns-else-n-eq2
returns-else-n-eq2 c =
    search (picks, rules) depth 9
