-- `load` clears, places and enters the table, as the definition does. Assumes nothing.
use mathlib.Core.Path.{◌∙◌}
use Rattle.machine.specs.Space.{needed}
use Rattle.objtext.proofs.Places.{after-program-place}
use Rattle.objtext.proofs.Walks.{object-walk, program-short}
use Rattle.runner.proofs.Loads.{zeros, length-placed, length-cleared}
use Rattle.runner.proofs.Spaces.{loaded-is}
use Rattle.runner.proofs.load.Goals as goal

pub after_program-requires : goal.after_program-requires
after_program-requires c =
    program-short 0 c.args.t.now (object-walk c.args.count c.args.t.now c.requires.0).program

pub table-requires : goal.table-requires
table-requires c = (
  (object-walk c.args.count c.args.t.now c.requires.0).few,
  rw (
    c.place.ensures,
    length-placed,
    zeros needed c.args.s.now _ c.requires.1 (c.fill.ensures.after (λ _ e. e)),
    length-cleared needed c.args.s.now c.requires.1,
  )
      c.requires.1,
)

pub returns : goal.returns
returns c =
    c.table.ensures
    ∙ rw (c.place.ensures, zeros needed c.args.s.now _ c.requires.1 (c.fill.ensures.after (λ _ e. e)))
    (loaded-is c.args.count c.args.t.now c.args.s.now c.after_program.result c.two_at.result
    (object-walk c.args.count c.args.t.now c.requires.0).some
    (rw c.after_program.ensures.0 (after-program-place c.args.t.now)) c.two_at.ensures.0)
