-- A target register stands alone and is not protected.
use Rattle.ledger.specs.Book.{wide_of}
use Rattle.tables.specs.Stacks.{stack_of}
use Rattle.static_rules.specs.Rules.{write_rule}
use Rattle.scopes.specs.declared.Refusal.TheVariants.{Misfit}
use Rattle.scopes.specs.Broken.{Ruling, rule, ◌⊕◌}
use Prim.Native.Nat.{ℕ}
use mathlib.Core.Bool.{Bool}
use mathlib.Core.Path.{ap, ap₂, ◌∙◌}
use Rattle.judge.proofs.register_target.Goals as goal

pub returns : goal.returns
returns c =
    c.join.ensures ∙ ap₂ (λ (x y : Ruling). x ⊕ y) (c.rule-bare.ensures ∙ ap
    (λ (z : Bool). rule z Misfit c.args.t)
    (c.is_bare.ensures c.args.t))
    (c.write_rule.ensures ∙ ap (λ (r : ℕ). write_rule (stack_of (wide_of
    c.args.wide.now).offsets c.args.depth) r
    c.args.t) c.number.ensures.0)
