-- `make` places branches, lays the program and its literals, and delivers where both fit their segments. Assumes nothing.
use Rattle.made.proofs.Delivering.{zeros-long, cut-long}
use Rattle.made.proofs.Making.{long-program, long-literals, all_made}
use Rattle.translation.specs.Layout.{segment_limit}
use Rattle.made.specs.Making.{literal_room}
use Rattle.ledger.specs.Book.{wide_of, thin_of}
use lib.ListN.{length-take, length-replicate}
use mathlib.Core.Path.{◌∙◌}
use Prim.Native.Nat.{ℕ}
use native.Mathlib.Omega.{arith}
use Rattle.made.proofs.make.Goals as goal

pub returns-then-size-gt-SEGMENT_LIMIT : goal.returns-then-size-gt-SEGMENT_LIMIT
returns-then-size-gt-SEGMENT_LIMIT c =
    λ ends w. long-program c.args.kinds.now (wide_of c.args.wide.now) (thin_of c.args.thin.now) _ ends c.args.tape.now _ _ _ _
    _ _ _ _ w.cells_is c.round_up-start.ensures.0 c.places.ensures.1 c.write_code-e.ensures.0 (length-replicate {A = ℕ}
    literal_room 0) c.write_code-e.auto.literals _ c.if-size-gt-SEGMENT_LIMIT.true

pub overflow_add-from : goal.overflow_add-from
overflow_add-from c =
    omega (arith, c.write_code-e.ensures.0.inside, length-replicate {A = ℕ} literal_room 0, c.round_up-start.ensures.1, c.requires.1)

pub returns-then-from-count-gt-SEGMENT_LIMIT : goal.returns-then-from-count-gt-SEGMENT_LIMIT
returns-then-from-count-gt-SEGMENT_LIMIT c =
    λ ends w. long-literals c.args.kinds.now (wide_of c.args.wide.now) (thin_of c.args.thin.now) _ ends c.args.tape.now _ _ _
    _ _ _ _ _ w.cells_is c.round_up-start.ensures.0 c.places.ensures.1 c.write_code-e.ensures.0 (length-replicate {A =
    ℕ} literal_room 0) c.write_code-e.auto.literals _ c.if-size-gt-SEGMENT_LIMIT.false c.if-from-count-gt-SEGMENT_LIMIT.true

pub slice_bounds-deliver-end : goal.slice_bounds-deliver-end
slice_bounds-deliver-end c =
    cut-long _ segment_limit _ c.if-size-gt-SEGMENT_LIMIT.false (c.write_code-e.auto.image ∙ zeros-long)

pub slice_bounds-deliver-end-2 : goal.slice_bounds-deliver-end-2
slice_bounds-deliver-end-2 c =
    cut-long _ literal_room _ (omega (arith, c.write_code-e.ensures.0.inside, length-replicate {A = ℕ} literal_room 0)) (c.write_code-e.auto.literals ∙ length-replicate {A = ℕ} literal_room 0)

pub deliver-requires : goal.deliver-requires
deliver-requires c = (
  omega (
    arith,
    cut-long c.write_code-e.result.length segment_limit c.write_code-e.new.image c.if-size-gt-SEGMENT_LIMIT.false
        (c.write_code-e.auto.image ∙ zeros-long),
    c.if-size-gt-SEGMENT_LIMIT.false,
  ),
  omega (
    arith,
    length-take c.write_code-e.result.literals c.write_code-e.new.literals,
    c.if-from-count-gt-SEGMENT_LIMIT.false,
  ),
  c.requires.1,
  c.requires.2,
  c.requires.3,
)

pub returns : goal.returns
returns c =
    λ ends w. all_made c.args.kinds.now (wide_of c.args.wide.now) (thin_of c.args.thin.now) _ ends c.args.tape.now _ _ _ _ _ _
    _ _ w.cells_is c.round_up-start.ensures.0 c.places.ensures.1 c.write_code-e.ensures.0 (length-replicate {A = ℕ} literal_room
    0) c.write_code-e.auto.literals _ _ _ c.if-size-gt-SEGMENT_LIMIT.false c.if-from-count-gt-SEGMENT_LIMIT.false (c.deliver.ensures ends w)
