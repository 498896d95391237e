-- `kind_at` gives the kind of a token, and 0 past the last. Assumes nothing.
use borrow.Author.Rules.{rules}
use Rattle.readers.proofs.Reading.{past}
use Rattle.readers.proofs.reader.kind_at.Goals as goal

pub returns-else-i-kinds : goal.returns-else-i-kinds
returns-else-i-kinds c =
    past _ _ (search rules) (search rules)
