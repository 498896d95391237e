-- Two shapes have an index, at a fixed distance.
use mathlib.Core.Path.{refl}
use Rattle.rules.proofs.Answers as answers
use Rattle.rules.proofs.no_index.Goals as goal

pub returns-then-shape-eq-INDEXED : goal.returns-then-shape-eq-INDEXED
returns-then-shape-eq-INDEXED c =
    answers.plainly _ _ (answers.index-two _ _ c.if-shape-eq-INDEXED.true) c.at.ensures

pub returns-then-shape-eq-SUBSCRIPTED_INDEXED : goal.returns-then-shape-eq-SUBSCRIPTED_INDEXED
returns-then-shape-eq-SUBSCRIPTED_INDEXED c =
    answers.plainly _ _ (answers.index-five _ _ c.if-shape-eq-SUBSCRIPTED_INDEXED.true) c.at-then-shape-eq-SUBSCRIPTED_INDEXED.ensures

pub returns : goal.returns
returns c =
    answers.plainly _ _ (answers.index-none _ _ c.if-shape-eq-INDEXED.false c.if-shape-eq-SUBSCRIPTED_INDEXED.false) refl
