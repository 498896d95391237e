-- Past the image nothing is written. Assumes nothing.
use mathlib.Core.Path.{sym}
use lib.Seq.{set_out}
use borrow.Author.Rules.{rules}
use Rattle.code.proofs.put_byte.Goals as goal

pub returns-else-i-image : goal.returns-else-i-image
returns-else-i-image c =
    sym (set_out _ _ _ (search rules))
