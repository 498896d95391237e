-- Why `is_function` meets its contract.
use borrow.Author.Rules.{rules}
use Rattle.tables.specs.Packed.{is_function_in}
use Rattle.tables.proofs.is_function.Goals as goal

pub returns : goal.returns
unfolding is_function_in
returns c =
    search rules
