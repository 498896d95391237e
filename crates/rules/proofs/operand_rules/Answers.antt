-- A number has no rule; all else is a designator.
use mathlib.Core.Path.{ap₂, ◌∙◌}
use Rattle.scopes.specs.Broken.{Ruling, ◌⊕◌}
use Rattle.static_rules.specs.Rules.{operand_rules}
use Rattle.rules.proofs.Answers as answers
use Rattle.rules.proofs.operand_rules.Goals as goal

pub returns-then-shape-eq-NUMBER : goal.returns-then-shape-eq-NUMBER
unfolding operand_rules
returns-then-shape-eq-NUMBER c =
    λ f s. rw (answers.a-number _ c.args.t c.if-shape-eq-NUMBER.true)

pub returns : goal.returns
unfolding operand_rules
returns c =
    λ f s.
    rw (answers.a-place _ c.args.t c.if-shape-eq-NUMBER.false)
    (c.join.ensures ∙ ap₂ (λ (x y : Ruling). x ⊕ y) (c.place_rules-fits.ensures f s) (c.no_byte.ensures f s _))
