-- A byte cell is refused, by what its name means.
use Rattle.rules.proofs.Answers as answers
use Rattle.rules.proofs.no_byte.Goals as goal

pub returns : goal.returns
returns c =
    λ f s shape. answers.not_byte s _ _ c.meaning-m.ensures shape c.is_cell.ensures c.is_byte.ensures c.rule.ensures
