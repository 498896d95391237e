-- Phrases are parts of statements; all other events that are judged are parts of declarations.
use Rattle.tape.specs.Numbers.{PHRASE}
use Rattle.judge.specs.Along.{event_rule}
use borrow.Author.Tests.{eq-eqb, ne_eqb}
use Rattle.judge.proofs.event_rule.Goals as goal

pub returns-then-layer-eq-PHRASE : goal.returns-then-layer-eq-PHRASE
unfolding event_rule
returns-then-layer-eq-PHRASE c =
    λ f s.
    rw (← c.layer.ensures, eq-eqb _ PHRASE c.if-layer-eq-PHRASE.true) (c.statement_rule.ensures f s)

pub returns : goal.returns
unfolding event_rule
returns c =
    λ f s. rw (← c.layer.ensures, ne_eqb _ PHRASE c.if-layer-eq-PHRASE.false) (c.declaration_rule.ensures f s.listed)
