-- A number is judged as a cell; a name is one without an index.
use Rattle.static_rules.specs.Rules.{cell_rules, plain_rules}
use Rattle.scopes.specs.Broken.{Ruling, ◌⊕◌}
use Rattle.rules.proofs.Answers as answers
use mathlib.Core.Path.{ap₂, ◌∙◌}
use Rattle.rules.proofs.plain_rules.Goals as goal

pub returns-then-shape-eq-NUMBER : goal.returns-then-shape-eq-NUMBER
unfolding cell_rules plain_rules
returns-then-shape-eq-NUMBER c =
    λ f s.
    let e = answers.a-number _ c.args.t c.if-shape-eq-NUMBER.true in
    rw e (rw e at (c.cell_rules-cell.ensures f s))

pub returns : goal.returns
unfolding plain_rules
returns c =
    λ f s.
    let e = answers.a-place _ c.args.t c.if-shape-eq-NUMBER.false in
    rw e (c.join.ensures ∙ ap₂ (λ (x y : Ruling). x ⊕ y) (rw e at (c.cell_rules-cell.ensures f s)) c.no_index.ensures)
