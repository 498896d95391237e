-- `end_of_first` is the last literal's end, or the cells'. Assumes nothing.
use Rattle.made.specs.Making.{end_of_first}
use Rattle.base.proofs.Tests.{tests}
use borrow.Author.Rules.{rules}
use Rattle.made.proofs.end_of_first.Goals as goal

pub returns-then-literals-eq0 : goal.returns-then-literals-eq0
unfolding end_of_first
returns-then-literals-eq0 c =
    (search tests, search rules)

pub returns : goal.returns
unfolding end_of_first
returns c =
    (search tests, search rules)
