-- `span_along` is the pass. Assumes nothing.
use Prim.Native.Nat.{◌+◌, ℕ}
use mathlib.Core.Path.{ap, ap₂}
use native.Mathlib.Omega.{arith}
use Rattle.tape.proofs.Pass.{pass-end}
use Rattle.emit.specs.Books.{wide_in, thin_in}
use Rattle.listing.specs.Operands.{Spanning, spanning_of, span_event, span_along}
use Rattle.listing.proofs.Spanning.{span-turn}
use Rattle.listing.proofs.span_along.Goals as goal

pub loop-e-preserved : goal.loop-e-preserved
loop-e-preserved c =
    let a = c.args in let l = c.loop-e in let op = c.op-op in let t = c.token-t in (
      omega (arith, l.invariant.0, c.size.ensures.1, c.table_size.ensures.1),
      span-turn a.address a.book.kinds.now (wide_in a.book) (thin_in a.book) op.result t.result l.p l.w l.target l.span a.tape.now
          l.e-index c.loop-e-test.true op.ensures.0 t.ensures.0 c.event-made.ensures (ap₂ (λ (x y : ℕ). x + y) c.size.ensures.0 c.table_size.ensures.0) c.family-family.ensures
          c.form.ensures.0 c.span_at-own.ensures c.operand_by.ensures c.span_after-span.ensures
          c.target_after-target.ensures l.invariant.1,
    )

pub returns : goal.returns
unfolding span_along
returns c =
    let a = c.args in let l = c.loop-e in
    ap (λ (s : Spanning). s.span) (pass-end (span_event a.address a.book.kinds.now (wide_in a.book) (thin_in a.book)) (spanning_of l.p l.w l.target
    l.span) a.tape.now l.e-index c.loop-e-test.false l.invariant.1)
