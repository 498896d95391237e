-- `part_length` is where the first separator stands. Assumes nothing.
use borrow.Author.Rules.{rules}
use borrow.Author.Tests.{tests}
use lib.Dec.{eqb}
use Rattle.std.proofs.lemmas.Iterator.{YieldsList-from_slice}
use Rattle.std.proofs.lemmas.Iterator.Search.{position_from_yields_List}
use Rattle.figures.proofs.Parts.{first_place}
use Rattle.figures.proofs.part_length.Goals as goal

pub returns : goal.returns
returns c =
    first_place (λ b. eqb b c.args.sep) c.args.s.now {r = c.position.result}
    (position_from_yields_List (λ b. eqb b c.args.sep) _ _ c.position.result c.position.ensures.ran (YieldsList-from_slice c.args.s.now cc) (λ x b q k. search (rules, tests)))
    c.unwrap_or.ensures
