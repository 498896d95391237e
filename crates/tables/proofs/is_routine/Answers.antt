-- Why `is_routine` meets its contract.
use borrow.Author.Rules.{rules}
use Rattle.tables.specs.Packed.{is_routine_in}
use Rattle.tables.proofs.is_routine.Goals as goal

pub returns : goal.returns
unfolding is_routine_in
returns c =
    search rules
