-- `place` lays the program and then each data segment. Assumes nothing.
use native.Mathlib.Omega.{arith}
use lib.ListN.{drop}
use borrow.Author.Rules.{rules}
use Rattle.objtext.proofs.Places.{after-program-place, length-place}
use Rattle.objtext.proofs.Walks.{object-walk, program-short, data-short}
use Rattle.runner.proofs.Loads.{walk_here, walk-on, place-on, place_end, placed-all}
use Rattle.runner.proofs.place.Goals as goal

pub fill-requires : goal.fill-requires
fill-requires c =
    omega (arith, c.two_at.ensures.0, program-short 0 c.args.t.now (object-walk c.args.count c.args.t.now c.requires.0).program)

pub after_program-at-requires : goal.after_program-at-requires
after_program-at-requires c =
    program-short 0 c.args.t.now (object-walk c.args.count c.args.t.now c.requires.0).program

pub loop-k-init : goal.loop-k-init
loop-k-init c =
    let w = object-walk c.args.count c.args.t.now c.requires.0 in
    record {
      few = w.few;
      near = search rules;
      walked = rw (c.after_program-at.ensures.0, after-program-place c.args.t.now) w.data-segments;
      placed = rw (c.after_program-at.ensures.0, after-program-place c.args.t.now);
    }

pub fill-requires-in-loop-k : goal.fill-requires-in-loop-k
fill-requires-in-loop-k c =
    omega (
      arith,
      c.two_at-in-loop-k.ensures.0,
      length-place c.args.t.now c.loop-k.at,
      data-short c.loop-k.k (drop c.loop-k.at c.args.t.now)
          (walk_here c.args.t.now c.args.count c.loop-k.k c.loop-k.at c.loop-k-test.true c.loop-k.invariant.walked),
    )

pub after_data-at-requires : goal.after_data-at-requires
after_data-at-requires c = (
  search rules,
  data-short c.loop-k.k (drop c.loop-k.at c.args.t.now)
      (walk_here c.args.t.now c.args.count c.loop-k.k c.loop-k.at c.loop-k-test.true c.loop-k.invariant.walked),
)

pub loop-k-preserved : goal.loop-k-preserved
loop-k-preserved c = record {
  few = search rules;
  near = search rules;
  walked = rw c.after_data-at.ensures.0 (walk-on c.args.t.now c.args.count c.loop-k.k c.loop-k.at c.loop-k-test.true c.loop-k.invariant.walked);
  placed = rw (c.after_data-at.ensures.0, c.fill-in-loop-k.ensures, c.two_at-in-loop-k.ensures.0, length-place c.args.t.now c.loop-k.at)
      (place-on c.args.t.now c.args.count c.loop-k.k c.loop-k.at c.loop-k-test.true c.loop-k.s c.loop-k.invariant.placed);
}

pub returns : goal.returns
returns c =
    placed-all c.args.t.now c.args.count _ (object-walk c.args.count c.args.t.now c.requires.0).some
    (rw (c.fill.ensures, c.two_at.ensures.0) at
    (place_end c.args.count c.loop-k.k c.loop-k-test.false (drop c.loop-k.at c.args.t.now) c.loop-k.s c.loop-k.invariant.placed))
