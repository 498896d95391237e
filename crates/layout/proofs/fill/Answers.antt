-- `fill` is the pass. Assumes nothing.
use Rattle.layout.specs.Along.{imaging_of, image_in}
use Rattle.tape.proofs.Pass.{pass-turn, pass-end}
use Rattle.ledger.specs.Book.{wide_of}
use borrow.Author.Rules.{rules}
use mathlib.Core.Path.{refl}
use Rattle.layout.proofs.fill.Goals as goal

pub loop-e-init : goal.loop-e-init
loop-e-init c =
    (search rules, search rules, search rules, refl)

pub loop-e-preserved : goal.loop-e-preserved
loop-e-preserved c = (
  search rules,
  search rules,
  search rules,
  rw c.image_event-f.ensures.0 (pass-turn
      (image_in c.args.k
      (wide_of c.args.wide.now))
      (imaging_of c.loop-e.image
      c.loop-e.f)
      c.args.tape.now
      c.loop-e.e-index c.op.result
      c.token.result c.loop-e-test.true
      c.op.ensures.0 c.token.ensures.0
      c.loop-e.invariant.3),
)

pub returns : goal.returns
returns c =
    pass-end (image_in c.args.k (wide_of c.args.wide.now))
    (imaging_of c.loop-e.image c.loop-e.f) c.args.tape.now c.loop-e.e-index
    c.loop-e-test.false c.loop-e.invariant.3
