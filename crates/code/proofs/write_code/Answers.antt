-- `write_code` is the pass, and the last instruction. Assumes nothing.
use Rattle.code.proofs.Holding.{holds-first, tape-turn, tape-end}
use Rattle.code.specs.Coding.{laid_of}
use Rattle.emit.specs.Books.{wide_in, thin_in}
use Rattle.emit.specs.declared.Emitted.{Emitted}
use lib.ListN.{length}
use Prim.Native.Nat.{◌+◌}
use Rattle.base.proofs.Parts.{to_end}
use native.Mathlib.Omega.{arith}
use mathlib.Core.Path.{◌≡◌, refl, sym, ap, ◌∙◌}
use mathlib.Core.List.{[]}
use borrow.Author.Rules.{rules}
use Rattle.code.proofs.write_code.Goals as goal

pub loop-i-init : goal.loop-i-init
loop-i-init c =
    let a = c.args in (
      search rules,
      search rules,
      search rules,
      search rules,
      refl,
      refl,
      record {
        state = laid_of 0 a.image.now [];
        holds =
            holds-first (length a.literals.now) a.image.now a.literals.now;
        leads = refl;
      },
    )

pub lay_codes-from-requires : goal.lay_codes-from-requires
lay_codes-from-requires c =
    let l = c.loop-i.invariant in let h = c.loop-i-test.true in let n = c.requires in (
      omega (arith, l.3, l.5),
      omega (arith, n.1, l.5),
      n.2,
      omega (arith, l.1, n.0),
    )

pub lay_table-length-requires : goal.lay_table-length-requires
lay_table-length-requires c =
    let h = c.loop-i-test.true in
    let n = c.requires in
    (omega (arith, h, n.0), omega (arith, c.loop-i.invariant.1, c.lay_codes-from.ensures.3, n.0))

pub loop-i-preserved : goal.loop-i-preserved
loop-i-preserved c =
    let a = c.args in
    let l = c.loop-i in
    let h = c.loop-i-test.true in
    let op = c.op-op in
    let t = c.token-t in
    let codes = ap (λ (e : Emitted). e.codes) c.event-made.ensures in
    let written = ap (λ (e : Emitted). e.writing) c.event-made.ensures in
    let laid = c.lay_codes-from in
    let table = c.lay_table-length in
    let n = c.requires in
    let later = rw (to_end a.tape.now (l.i + 1)) at table.ensures.0 in
    let len : length l.literals ≡ length a.literals.now = l.invariant.5 in (
      omega arith,
      omega (arith, l.invariant.1, laid.ensures.3, table.ensures.1, n.0),
      omega (arith, l.invariant.2, laid.ensures.1),
      omega (arith, len, laid.ensures.2),
      table.auto.image ∙ (laid.auto.image ∙ l.invariant.4),
      laid.auto.literals ∙ len,
      tape-turn a.start (length a.literals.now) a.book.kinds.now (wide_in a.book) (thin_in a.book) a.tape.now l.i op.result t.result _ _ _ _ _ _ _ _ _ _
          c.event-made.result.codes l.w _ _ h op.ensures.0 t.ensures.0 codes written len laid.ensures.0 later l.invariant.6,
    )

pub lay_code-n-requires : goal.lay_code-n-requires
lay_code-n-requires c =
    let l = c.loop-i.invariant in let n = c.requires in (omega (arith, l.3, l.5), omega (arith, n.1, l.5), n.2, omega (arith, l.1, l.0, n.0))

pub overflow_add-end : goal.overflow_add-end
overflow_add-end c =
    let l = c.loop-i.invariant in let n = c.requires.0 in omega (arith, l.1, l.0)

pub shape_of-image : goal.shape_of-image
shape_of-image c =
    c.lay_code-n.auto.image ∙ c.loop-i.invariant.4

pub shape_of-literals : goal.shape_of-literals
shape_of-literals c =
    c.lay_code-n.auto.literals ∙ c.loop-i.invariant.5

pub returns : goal.returns
returns c =
    let a = c.args in let l = c.loop-i in let laid = c.lay_code-n in let len : length l.literals ≡ length a.literals.now = l.invariant.5
    in (
      tape-end a.start (length a.literals.now) a.book.kinds.now (wide_in a.book) (thin_in a.book) a.tape.now a.image.now l.i
          l.at.length l.at.literals laid.result l.image l.literals _ _ l.w c.stop.result c.loop-i-test.false (laid.auto.literals ∙ len) c.stop.ensures (λ g. laid.ensures.0 (omega (arith, g, len))) (λ g. laid.ensures.1 (g ∙ sym len)) laid.ensures.2 l.invariant.6,
      omega (arith, laid.ensures.2, l.invariant.2, l.invariant.0),
    )
