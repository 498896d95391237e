-- `places` is the pass. Assumes nothing.
use Rattle.code.proofs.Placing.{places-turn}
use Rattle.code.specs.Places.{kept, Placing, placing_of, places_along, on_marks, place_step}
use Rattle.emit.specs.declared.Past.{Past}
use Rattle.ledger.specs.Book.{wide_of, thin_of}
use Rattle.tape.proofs.Pass.{pass-end}
use native.Mathlib.Omega.{arith}
use mathlib.Core.Path.{refl, ap, ◌∙◌}
use mathlib.Core.List.{List}
use Prim.Native.Nat.{ℕ}
use borrow.Author.Rules.{rules}
use Rattle.code.proofs.places.Goals as goal

pub loop-e-init : goal.loop-e-init
unfolding places_along
loop-e-init c =
    (search rules, search rules, refl, refl, refl)

pub passed-behind-requires : goal.passed-behind-requires
passed-behind-requires c =
    let b = c.loop-e.invariant.1 in
    let h = c.loop-e-test.true in
    let n = c.requires in
    (search rules, omega arith)

pub mark_after-requires : goal.mark_after-requires
mark_after-requires c =
    (c.token-t.ensures.1, omega arith, omega arith)

pub loop-e-preserved : goal.loop-e-preserved
unfolding kept
loop-e-preserved c =
    let a = c.args in
    let l = c.loop-e in
    let op = c.op-op in
    let t = c.token-t in
    let behind = ap (λ (s : Past). s.at) c.passed-behind.ensures.0 in
    let written = ap (λ (s : Past). s.writing) c.passed-behind.ensures.0 in
    let marked = rw c.family.ensures at c.mark_after.ensures in
    let turn = places-turn a.kinds.now a.tape.now (wide_of a.wide.now) (thin_of a.thin.now) (thin_of l.thin) _ l.e-index op.result t.result l.p _ l.w _ l.invariant.3
    c.loop-e-test.true op.ensures.0 t.ensures.0 behind marked written l.invariant.4 in (
      omega arith,
      omega (arith, l.invariant.1, c.passed-behind.ensures.1),
      c.mark_after.auto.thin ∙ l.invariant.2,
      turn.0,
      turn.1,
    )

pub returns : goal.returns
returns c =
    let a = c.args in let l = c.loop-e in let e = pass-end (place_step a.kinds.now (wide_of a.wide.now) (thin_of a.thin.now)) (placing_of l.p l.w (thin_of l.thin).written) a.tape.now l.e-index c.loop-e-test.false l.invariant.4 in (
      ap (λ (s : Placing). s.at) e,
      l.invariant.3 ∙ ap (λ (s :
          Placing). on_marks (λ (m : List ℕ). s.marks) (thin_of a.thin.now)) e,
    )
