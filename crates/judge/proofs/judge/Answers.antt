-- The loop goes along the tape as the definition's pass does, with the protected registers in the column of offsets; `Going` says what stands after i events.
use Rattle.judge.proofs.Along.{kept-fits, few-fit, opened-fits, going, going_on, going_end}
use mathlib.Core.Path.{refl, ◌∙◌}
use native.Mathlib.Omega.{arith}
use Rattle.judge.proofs.judge.Goals as goal

pub loop-e-init : goal.loop-e-init
loop-e-init c =
    let first = c.put_offset in
    let second = c.put_offset-2 in
    let asked = c.requires in (
      going _ _ _ _ _ c.args.wide.now _ _
          first.ensures second.ensures first.auto.wide second.auto.wide asked.0 asked.1.0 asked.1.1,
      (refl, refl),
    )

pub event_rule-requires : goal.event_rule-requires
event_rule-requires c =
    omega (arith, c.token-t.ensures.1)

pub held_after-d-requires : goal.held_after-d-requires
held_after-d-requires c =
    let g = c.loop-e.invariant.0 in
    let h = c.loop-e-test.true in
    let (deep, (small, few)) = kept-fits _ _ _ _ _ g h in (
      omega (arith, c.token-t.ensures.1),
      (deep, (small, (few, opened-fits _ _ _ _ _ g h _ c.op-op.ensures.0))),
    )

pub open_after-o-requires : goal.open_after-o-requires
open_after-o-requires c =
    few-fit _ _ _ _ _ c.loop-e.invariant.0 c.loop-e-test.true

pub loop-e-preserved : goal.loop-e-preserved
loop-e-preserved c =
    let before = c.loop-e.invariant in let held = c.held_after-d in let wides = held.auto.wide in let countings = held.auto.counts in (
      going_on _ _ _ _ _ before.0 c.loop-e-test.true _ _ c.op-op.ensures.0 c.token-t.ensures.0
          c.event_rule.ensures c.join_to.ensures held.ensures.0 held.ensures.1 c.cells_after-c.ensures
          c.open_after-o.ensures wides countings,
      (wides ∙ before.1.0, countings ∙ before.1.1),
    )

pub shape_of-wide : goal.shape_of-wide
shape_of-wide c =
    c.loop-e.invariant.1.0 ∙ (c.put_offset-2.auto.wide
    ∙ c.put_offset.auto.wide)

pub shape_of-counts : goal.shape_of-counts
shape_of-counts c =
    c.loop-e.invariant.1.1

pub returns : goal.returns
returns c =
    going_end _ _ _ _ _
    c.args.wide.now _
    c.put_offset.ensures c.put_offset-2.ensures
    c.loop-e.invariant.0 c.loop-e-test.false
