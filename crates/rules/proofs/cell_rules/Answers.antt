-- A number is no cell; a name is by what it means, and its designator by its own rules.
use Rattle.static_rules.specs.Rules.{cell_rules}
use Rattle.scopes.specs.Broken.{Ruling, ◌⊕◌}
use Rattle.rules.proofs.Answers as answers
use mathlib.Core.Path.{ap₂, ◌∙◌}
use Rattle.rules.proofs.cell_rules.Goals as goal

pub returns-then-shape-eq-NUMBER : goal.returns-then-shape-eq-NUMBER
unfolding cell_rules
returns-then-shape-eq-NUMBER c =
    λ f s. rw (answers.a-number _ c.args.t c.if-shape-eq-NUMBER.true) c.at.ensures

pub returns : goal.returns
unfolding cell_rules
returns c =
    λ f s.
    rw (answers.a-place _ c.args.t c.if-shape-eq-NUMBER.false)
    (c.join.ensures ∙ ap₂ (λ (x y : Ruling). x ⊕ y)
    (answers.a-cell s _ _ c.meaning.ensures c.is_cell.ensures c.rule-sort.ensures)
    (c.place_rules.ensures f s))
