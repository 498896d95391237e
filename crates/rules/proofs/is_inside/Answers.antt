-- A subscript is tested as the definition tests it: its sign, whether it is a multiple of the element's size, and how many elements stand before it.
use Rattle.rules.proofs.Sorts as sorts
use Rattle.rules.proofs.is_inside.Goals as goal

pub returns : goal.returns
returns c =
    λ n b. sorts.inside_is _ _ c.args.v _ c.element_size-e.ensures.0 c.element_size-e.ensures.1 c.number-n.ensures.0 n b
