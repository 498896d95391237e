-- `started` runs the machine in the space of the segments, whose map is read from the heads. Assumes nothing.
use mathlib.Core.Path.{◌∙◌}
use native.Mathlib.Omega.{arith}
use borrow.Author.Rules.{rules}
use Rattle.objtext.proofs.Walks.{object-walk, program-short}
use Rattle.runner.proofs.Spaces.{space-is}
use Rattle.runner.proofs.started.Goals as goal

pub run-requires : goal.run-requires
run-requires c =
    let w = object-walk c.args.count c.args.t.now c.requires.0 in
    (omega (arith, c.two_at.ensures.0, program-short 0 c.args.t.now w.program), search rules)

pub returns : goal.returns
returns c =
    let w = object-walk c.args.count c.args.t.now c.requires.0 in
    c.run.ensures ∙ rw (c.chart.ensures, c.two_at.ensures.0, space-is c.args.count c.args.t.now (omega (arith, w.some)) w.few)
