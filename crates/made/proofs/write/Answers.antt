-- `write` fills an image of zeros for each segment, and lays the object of their parts. Assumes nothing.
use Rattle.made.proofs.Delivering.{zeros-long, cut-long, write-fits, written}
use mathlib.Core.Path.{◌∙◌}
use native.Mathlib.Omega.{arith}
use Rattle.translation.specs.Layout.{segment_limit}
use Rattle.ledger.specs.Book.{wide_of}
use Rattle.made.proofs.write.Goals as goal

pub slice_bounds-first-end : goal.slice_bounds-first-end
slice_bounds-first-end c =
    omega (arith, c.requires.2, (c.lay_literals.auto.image ∙ (c.fill.auto.image ∙ zeros-long)))

pub slice_bounds-write_object-end : goal.slice_bounds-write_object-end
slice_bounds-write_object-end c =
    cut-long _ segment_limit _ c.requires.2 (c.lay_literals.auto.image ∙ (c.fill.auto.image ∙ zeros-long))

pub slice_bounds-second-end : goal.slice_bounds-second-end
slice_bounds-second-end c =
    omega (arith, c.requires.3, (c.fill-2.auto.image ∙ zeros-long))

pub slice_bounds-write_object-end-2 : goal.slice_bounds-write_object-end-2
slice_bounds-write_object-end-2 c =
    cut-long _ segment_limit _ c.requires.3 (c.fill-2.auto.image ∙ zeros-long)

pub slice_bounds-third-end : goal.slice_bounds-third-end
slice_bounds-third-end c =
    omega (arith, c.requires.4, (c.fill-3.auto.image ∙ zeros-long))

pub slice_bounds-write_object-end-3 : goal.slice_bounds-write_object-end-3
slice_bounds-write_object-end-3 c =
    cut-long _ segment_limit _ c.requires.4 (c.fill-3.auto.image ∙ zeros-long)

pub write_object-requires : goal.write_object-requires
write_object-requires c =
    write-fits c.args.code.now c.lay_literals.new.image c.fill-2.new.image c.fill-3.new.image c.args.out.now c.args.s.bases c.args.last c.args.s.two c.args.s.three (
      c.requires.0,
      cut-long c.args.last
          segment_limit _ c.requires.2 (c.lay_literals.auto.image ∙ (c.fill.auto.image ∙ zeros-long)),
      cut-long c.args.s.two segment_limit _
          c.requires.3 (c.fill-2.auto.image ∙ zeros-long),
      cut-long c.args.s.three segment_limit _ c.requires.4 (c.fill-3.auto.image
          ∙ zeros-long),
    ) (c.requires.2, c.requires.3, c.requires.4) c.requires.5

pub returns : goal.returns
returns c =
    written (wide_of c.args.wide.now) c.args.tape.now _ _ _ _ _ _ _ _ _ _ _ _ _ _ _ _ _ c.fill.ensures c.lay_literals.ensures c.fill-2.ensures c.fill-3.ensures c.write_object.ensures
