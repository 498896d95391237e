-- Three shapes have a subscript or an index.
use Rattle.rules.proofs.Sorts as sorts
use Rattle.rules.proofs.is_bare.Goals as goal

pub returns : goal.returns
returns c =
    λ t. sorts.bare-is _ t
