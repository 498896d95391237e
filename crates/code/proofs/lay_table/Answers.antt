-- The statements of a CASE are passed, and each that ends leaves a branch to its start. Assumes nothing.
use Prim.Native.Nat.{ℕ, ◌/◌, ◌%◌}
use mathlib.Core.Path.{◌≡◌, refl, sym, ap, ◌∙◌}
use mathlib.Core.Bool.{true, false}
use mathlib.Core.List.{List}
use native.Mathlib.Omega.{arith}
use lib.Dec.{eqb}
use lib.ListN.{get_or}
use borrow.Author.Rules.{rules}
use borrow.Author.Tests.{eq-eqb, ne_eqb}
use Rattle.base.specs.Walk.{fold}
use Rattle.tape.specs.Events as E
use Rattle.tape.specs.Numbers.{family_at}
use Rattle.ledger.specs.Book.{Wide, Thin}
use Rattle.emit.specs.Books.{wide_in, thin_in}
use Rattle.emit.specs.declared.Past.{Past}
use Rattle.emit.specs.declared.Writing.{Writing}
use Rattle.emit.specs.Along.{table_along}
use Rattle.code.specs.Coding.{Laid, laid_of, lay_all, table_in}
use Rattle.code.proofs.Tables.{rest, table-turn, table-end, tape-over}
use Rattle.code.proofs.lay_table.Goals as goal

pub returns-then-family-ne-CHOSEN : goal.returns-then-family-ne-CHOSEN
unfolding table_along fold
returns-then-family-ne-CHOSEN c =
    let a = c.args in
    let e : c.family.result ≡ family_at (a.e % E.EVENTS) = c.family.ensures ∙ ap family_at c.op.ensures.0 in
    let n : eqb (family_at (a.e % E.EVENTS)) E.CHOSEN ≡ false = ne_eqb _ _ (λ q. c.if-family-ne-CHOSEN.true (e ∙ q)) in
    (λ k seen. rw n, omega arith)

pub loop-x-init : goal.loop-x-init
loop-x-init c =
    let n = c.requires in
    (omega arith, omega arith, omega (arith, c.written-from.ensures.1), omega arith, refl, λ k seen. refl)

pub shape_of-image-then-depth-eq0 : goal.shape_of-image-then-depth-eq0
shape_of-image-then-depth-eq0 c =
    c.loop-x.invariant.4

-- where nothing of the table is left, what is laid is the table
ended :
    (kinds tape : List ℕ) (w : Wide) (b : Thin) (e op t f start at end depth from p : ℕ) (a v : Writing) (image laid left : List ℕ)
    → op ≡ e % E.EVENTS → t ≡ e / E.EVENTS → f ≡ family_at op → f ≡ E.CHOSEN → start ≡ get_or b.written t 0
    → ((k : ℕ) (seen : List ℕ) → lay_all k (rest kinds tape w b depth from p v left) (laid_of end laid seen)
    ≡ lay_all k (rest kinds tape w b 1 start start a tape) (laid_of at image seen))
    → ((s whole : Laid) (k : ℕ) → lay_all k (rest kinds tape w b depth from p v left) s ≡ whole → s ≡ whole)
    → (k : ℕ) (seen : List ℕ) → laid_of end laid seen
    ≡ lay_all k (table_in kinds w b (e % E.EVENTS) (e / E.EVENTS) a tape) (laid_of at image seen)
unfolding table_along
ended kinds tape w b e op t f start at end depth from p a v image laid left o q g h u inv over k seen =
    let g' : f ≡ family_at (e % E.EVENTS) = g ∙ ap family_at o in
    let n : eqb (family_at (e % E.EVENTS)) E.CHOSEN ≡ true = eq-eqb _ _ (sym g' ∙ h) in
    let whole : laid_of end laid seen ≡ lay_all k (rest kinds tape w b 1 start start a tape) (laid_of at image seen) =
    over (laid_of end laid seen) _ k (inv k seen) in
    rw (n, ← q, ← u) whole

pub returns-then-depth-eq0 : goal.returns-then-depth-eq0
returns-then-depth-eq0 c =
    let a = c.args in
    let l = c.loop-x in (
      ended a.book.kinds.now a.rest.now (wide_in a.book) (thin_in a.book) a.e c.op.result c.token.result c.family.result c.written-from.result
          a.at l.end l.depth l.from l.p a.w l.v a.image.now l.image _ c.op.ensures.0 c.token.ensures.0 c.family.ensures
          c.if-family-ne-CHOSEN.false c.written-from.ensures.0 l.invariant.5 (λ s whole k e. table-end _ _ _ _ l.x-index l.depth l.from l.p l.v s k c.if-depth-eq0.true e),
      omega (arith, l.invariant.3, l.invariant.0),
    )

pub passed-behind-requires : goal.passed-behind-requires
passed-behind-requires c =
    let l = c.loop-x.invariant in
    let h = c.loop-x-test.true in
    let n = c.requires in
    (search rules, omega (arith, l.2, n.0))

pub lay_entry-end-requires : goal.lay_entry-end-requires
lay_entry-end-requires c =
    let l = c.loop-x.invariant in
    let h = c.loop-x-test.true in
    let n = c.requires in
    omega (arith, l.3, n.1)

pub depth_after-depth-requires : goal.depth_after-depth-requires
depth_after-depth-requires c =
    let l = c.loop-x.invariant in
    let h = c.loop-x-test.true in
    let n = c.requires in
    omega (arith, l.1, n.0)

pub loop-x-preserved : goal.loop-x-preserved
loop-x-preserved c =
    let a = c.args in
    let l = c.loop-x in
    let f = c.family-family.ensures in
    let depth = rw f at c.depth_after-depth.ensures.0 in
    let from = rw f at c.start_after-from.ensures in
    let laid = rw f at c.lay_entry-end.ensures.0 in
    let behind = ap (λ (s : Past). s.at) c.passed-behind.ensures.0 in
    let written = ap (λ (s : Past). s.writing) c.passed-behind.ensures.0 in (
      omega arith,
      omega (arith, l.invariant.1, c.depth_after-depth.ensures.1),
      omega (arith, l.invariant.2, c.passed-behind.ensures.1),
      omega (arith, l.invariant.3, c.lay_entry-end.ensures.1),
      c.lay_entry-end.auto.image ∙ l.invariant.4,
      λ k seen.
          rw (depth, from)
          (table-turn a.book.kinds.now a.rest.now (wide_in a.book) (thin_in a.book) l.x-index c.op-op.result c.token-in-loop-x.result l.depth l.from l.p _ l.end _
          l.v _ l.image _ c.loop-x-test.true c.if-depth-eq0.false c.op-op.ensures.0 c.token-in-loop-x.ensures.0 behind written laid
          k seen (l.invariant.5 k seen)),
    )

pub shape_of-image : goal.shape_of-image
shape_of-image c =
    c.loop-x.invariant.4

pub returns : goal.returns
returns c =
    let a = c.args in
    let l = c.loop-x in (
      ended a.book.kinds.now a.rest.now (wide_in a.book) (thin_in a.book) a.e c.op.result c.token.result c.family.result c.written-from.result
          a.at l.end l.depth l.from l.p a.w l.v a.image.now l.image _ c.op.ensures.0 c.token.ensures.0 c.family.ensures
          c.if-family-ne-CHOSEN.false c.written-from.ensures.0 l.invariant.5 (λ s whole k e. tape-over _ _ _ _ l.x-index l.depth l.from l.p l.v s k c.loop-x-test.false e),
      omega (arith, l.invariant.3, l.invariant.0),
    )
