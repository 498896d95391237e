-- `onward` follows the definition's test. Assumes nothing.
use borrow.Author.Rules.{rules}
use Rattle.base.proofs.Tests.{picks}
use Rattle.spots.proofs.onward.Goals as goal

pub returns-then-b-eq1 : goal.returns-then-b-eq1
returns-then-b-eq1 c =
    search (picks, rules) depth 9

pub returns : goal.returns
returns c =
    search (picks, rules) depth 9
