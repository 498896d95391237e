-- `grammatical` lends lists by the text's length; over the limit it is refused. Assumes nothing.
use borrow.Author.Rules.{rules}
use Rattle.parse.proofs.Texts.{too_long}
use Rattle.parse.proofs.grammatical.Goals as goal

pub returns-in_default : goal.returns-in_default
returns-in_default c =
    too_long c.args.src.now (search rules)
