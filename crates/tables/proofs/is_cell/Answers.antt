-- Why `is_cell` meets its contract.
use borrow.Author.Rules.{rules}
use Rattle.tables.specs.Packed.{is_cell_in}
use Rattle.tables.proofs.is_cell.Goals as goal

pub returns : goal.returns
unfolding is_cell_in
returns c =
    search rules
