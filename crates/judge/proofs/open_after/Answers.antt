-- A target and a control name a new target, by what they mean; a use begins with its name, and each argument is one more; every other event leaves what stands open.
use Rattle.tape.specs.Events as E
use Rattle.tape.specs.Numbers.{form_at}
use Rattle.judge.specs.Along.{open_after, open_of, aim_of}
use Rattle.judge.proofs.Answers as answers
use Rattle.judge.specs.declared.Target.{Target}
use mathlib.Core.Path.{ap}
use borrow.Author.Tests.{eq-eqb, ne_eqb}
use Rattle.judge.proofs.open_after.Goals as goal

pub returns-then-k : goal.returns-then-k
unfolding open_after
returns-then-k c =
    λ f s.
    let a = c.args in
    rw (← c.family-k.ensures, c.if-k.true)
    (ap (λ (x : Target). open_of x a.o.name a.o.position) (answers.told s a.t _ c.meaning.ensures aim_of _ c.aim_of.ensures))

pub returns-then-op-eq-APPLIED : goal.returns-then-op-eq-APPLIED
unfolding open_after form_at
returns-then-op-eq-APPLIED c =
    λ f s. rw c.if-op-eq-APPLIED.true

pub returns-then-k-eq-ARGUED : goal.returns-then-k-eq-ARGUED
unfolding open_after
returns-then-k-eq-ARGUED c =
    λ f s.
    rw (← c.family-k.ensures, c.if-k.false, ne_eqb _ E.APPLIED c.if-op-eq-APPLIED.false, eq-eqb _ E.ARGUED c.if-k-eq-ARGUED.true)

pub returns : goal.returns
unfolding open_after
returns c =
    λ f s.
    rw (← c.family-k.ensures, c.if-k.false, ne_eqb _ E.APPLIED c.if-op-eq-APPLIED.false, ne_eqb _ E.ARGUED c.if-k-eq-ARGUED.false)
