-- A number is no register, and what is written is by what its name means.
use Rattle.static_rules.specs.Rules.{written_rules}
use Rattle.rules.proofs.Answers as answers
use mathlib.Core.Path.{refl, sym, ◌∙◌}
use Rattle.rules.proofs.written_rules.Goals as goal

pub returns-then-shape-eq-NUMBER : goal.returns-then-shape-eq-NUMBER
unfolding written_rules
returns-then-shape-eq-NUMBER c =
    λ f s. rw (answers.a-number _ c.args.t c.if-shape-eq-NUMBER.true)

pub returns-then-is_register : goal.returns-then-is_register
unfolding written_rules
returns-then-is_register c =
    λ f s.
    rw (answers.a-place _ c.args.t c.if-shape-eq-NUMBER.false)
    (answers.writes-register s _ _ c.meaning-m.ensures _
    (sym c.is_register.ensures ∙ c.if-is_register.true) c.number.ensures.0 c.write_rule.ensures)

pub returns : goal.returns
unfolding written_rules
returns c =
    λ f s.
    rw (answers.a-place _ c.args.t c.if-shape-eq-NUMBER.false)
    (answers.writes-none s _ _ c.meaning-m.ensures _ (sym c.is_register.ensures ∙ c.if-is_register.false)
    refl)
