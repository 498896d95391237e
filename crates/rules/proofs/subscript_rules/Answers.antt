-- Two shapes have a subscript, two tokens on.
use mathlib.Core.Path.{refl}
use Rattle.rules.proofs.Answers as answers
use Rattle.rules.proofs.subscript_rules.Goals as goal

pub returns-then-shape : goal.returns-then-shape
returns-then-shape c =
    λ f s n b.
    answers.subscripted f c.args.t c.args.shape
    c.args.m _ s c.if-shape.true c.value.ensures
    c.is_inside.ensures c.rule.ensures n b

pub returns : goal.returns
returns c =
    λ f s n b. answers.no-subscript f _ _ c.if-shape.false refl _
