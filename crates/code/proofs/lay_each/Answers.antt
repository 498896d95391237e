-- One instruction behind the other. Assumes nothing.
use Prim.Native.Nat.{◌+◌, ◌≤◌}
use mathlib.Core.Path.{◌≡◌, refl, sym, ◌∙◌}
use native.Mathlib.Omega.{arith}
use lib.ListN.{length}
use borrow.Author.Rules.{rules}
use Rattle.code.proofs.Holding.{in-room, event-turn, event-end}
use Rattle.code.proofs.lay_each.Goals as goal

pub loop-c-init : goal.loop-c-init
loop-c-init c =
    (search rules, search rules, search rules, search rules, refl, refl, λ s h. record { state = s; holds = h; leads = refl })

pub lay_code-n-requires : goal.lay_code-n-requires
lay_code-n-requires c =
    let i = c.loop-c.invariant in
    let q = c.requires in
    let t = c.loop-c-test.true in
    (omega arith, omega arith, q.2, omega arith)

pub overflow_add-p : goal.overflow_add-p
overflow_add-p c =
    let i = c.loop-c.invariant in
    let q = c.requires in
    let t = c.loop-c-test.true in
    omega (arith, c.code_size-p.ensures.1)

pub loop-c-preserved : goal.loop-c-preserved
loop-c-preserved c =
    let a = c.args in
    let l = c.loop-c in
    let t = c.loop-c-test.true in
    let laid = c.lay_code-n in
    let z = c.code_size-p in
    let len : length l.literals ≡ length a.literals.now = l.invariant.5 in
    let one : laid.result ≤ l.n + 1 = laid.ensures.2 in (
      omega arith,
      omega (arith, l.invariant.1, z.ensures.1),
      omega (arith, l.invariant.2, one),
      in-room l.n laid.result (length a.literals.now) l.invariant.3 (λ g. laid.ensures.1 (g ∙ sym len)) one,
      laid.auto.image ∙ l.invariant.4,
      laid.auto.literals ∙ len,
      λ s h.
          event-turn a.start (length a.literals.now) l.c-index a.codes.now l.p l.n z.result laid.result l.image l.literals _ _
          _ _ _ (laid.auto.literals ∙ len) t refl z.ensures.0 (λ g. laid.ensures.0 (omega (arith, g, len)))
          (λ g. laid.ensures.1 (g ∙ sym len)) one (l.invariant.6 s h),
    )

pub shape_of-image : goal.shape_of-image
shape_of-image c =
    c.loop-c.invariant.4

pub shape_of-literals : goal.shape_of-literals
shape_of-literals c =
    c.loop-c.invariant.5

pub returns : goal.returns
returns c =
    let a = c.args in
    let l = c.loop-c in
    let t = c.loop-c-test.false in (
      λ s h. event-end a.start (length a.literals.now) l.c-index a.codes.now l.p l.n l.image l.literals _ t (l.invariant.6 s h),
      omega (arith, l.invariant.2, l.invariant.0),
      l.invariant.3,
      omega (arith, l.invariant.1, l.invariant.0),
    )
