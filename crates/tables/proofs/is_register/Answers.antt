-- Why `is_register` meets its contract.
use borrow.Author.Rules.{rules}
use Rattle.tables.specs.Packed.{is_register_in}
use Rattle.tables.proofs.is_register.Goals as goal

pub returns : goal.returns
unfolding is_register_in
returns c =
    search rules
