-- Why `is_array` meets its contract.
use borrow.Author.Rules.{rules}
use Rattle.tables.specs.Packed.{is_array_in}
use Rattle.tables.proofs.is_array.Goals as goal

pub returns : goal.returns
unfolding is_array_in
returns c =
    search rules
