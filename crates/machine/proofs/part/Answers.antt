-- `part` follows the definition's test. Assumes nothing.
use borrow.Author.Rules.{rules}
use Rattle.base.proofs.Tests.{picks}
use Rattle.machine.proofs.part.Goals as goal

pub returns-then-i-eq0 : goal.returns-then-i-eq0
returns-then-i-eq0 c =
    (search (picks, rules), search rules)

pub returns-else-i-eq0 : goal.returns-else-i-eq0
returns-else-i-eq0 c =
    (search (picks, rules), search rules)
