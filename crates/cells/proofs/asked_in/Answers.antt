-- The tokens of the word, laid over lists of five. Assumes nothing.
use mathlib.Core.Path.{ap}
use Rattle.token.specs.Answers.{Lists}
use Rattle.cells.specs.Elements.{asked_in}
use Rattle.cells.proofs.asked_in.Goals as goal

pub returns : goal.returns
unfolding asked_in
returns c =
    let l = c.tokens_of.ensures.are-laid in
    rw (c.asked_by.ensures, ap (λ (x : Lists). x.kinds) l, ap (λ (x : Lists). x.values) l)
