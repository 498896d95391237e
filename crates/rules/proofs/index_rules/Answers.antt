-- By shape the index stands two or five tokens on, or there is none.
use mathlib.Core.Path.{refl}
use Rattle.rules.proofs.Answers as answers
use Rattle.rules.proofs.index_rules.Goals as goal

pub returns-then-shape-eq-INDEXED : goal.returns-then-shape-eq-INDEXED
returns-then-shape-eq-INDEXED c =
    λ f s. answers.indexed f _ _ _ (answers.index-two _ _ c.if-shape-eq-INDEXED.true) (c.used_register.ensures f s)

pub returns-then-shape-eq-SUBSCRIPTED_INDEXED : goal.returns-then-shape-eq-SUBSCRIPTED_INDEXED
returns-then-shape-eq-SUBSCRIPTED_INDEXED c =
    λ f s. answers.indexed f _ _ _ (answers.index-five _ _ c.if-shape-eq-SUBSCRIPTED_INDEXED.true) (c.used_register-then-shape-eq-SUBSCRIPTED_INDEXED.ensures f s)

pub returns : goal.returns
returns c =
    λ f s. answers.no_index_lem f _ _ (answers.index-none _ _ c.if-shape-eq-INDEXED.false c.if-shape-eq-SUBSCRIPTED_INDEXED.false) refl
