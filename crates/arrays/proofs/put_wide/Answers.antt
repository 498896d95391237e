-- Why `put_wide` meets its contract.
use lib.Seq.{set_out}
use mathlib.Core.Path.{sym}
use borrow.Author.Rules.{rules}
use Rattle.arrays.proofs.put_wide.Goals as goal

pub returns-else-i-a : goal.returns-else-i-a
returns-else-i-a c =
    sym (set_out _ _ _ (search rules))
