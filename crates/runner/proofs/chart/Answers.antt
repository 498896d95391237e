-- `chart` lays the numbers of each data head over the map by page. Assumes nothing.
use lib.ListN.{drop}
use borrow.Author.Rules.{rules}
use Rattle.objtext.proofs.Places.{after-program-place}
use Rattle.objtext.proofs.Walks.{object-walk, program-short, data-short}
use Rattle.runner.proofs.Loads.{walk_here, walk-on, chart-on, chart-end}
use Rattle.runner.proofs.chart.Goals as goal

pub after_program-at-requires : goal.after_program-at-requires
after_program-at-requires c =
    program-short 0 c.args.t.now (object-walk c.args.count c.args.t.now c.requires).program

pub loop-k-init : goal.loop-k-init
loop-k-init c =
    let w = object-walk c.args.count c.args.t.now c.requires in
    record {
      few = w.few;
      near = search rules;
      walked = rw (c.after_program-at.ensures.0, after-program-place c.args.t.now) w.data-segments;
      charted = rw (c.after_program-at.ensures.0, after-program-place c.args.t.now);
    }

pub after_data-at-requires : goal.after_data-at-requires
after_data-at-requires c = (
  search rules,
  data-short c.loop-k.k (drop c.loop-k.at c.args.t.now)
      (walk_here c.args.t.now c.args.count c.loop-k.k c.loop-k.at c.loop-k-test.true c.loop-k.invariant.walked),
)

pub loop-k-preserved : goal.loop-k-preserved
loop-k-preserved c = record {
  few = search rules;
  near = search rules;
  walked = rw c.after_data-at.ensures.0 (walk-on c.args.t.now c.args.count c.loop-k.k c.loop-k.at c.loop-k-test.true c.loop-k.invariant.walked);
  charted = rw (c.after_data-at.ensures.0, c.two_at.ensures.0, c.two_at-in-loop-k.ensures.0, c.two_at-in-loop-k-2.ensures.0)
      (chart-on c.args.t.now c.args.count c.loop-k.k c.loop-k.at c.loop-k-test.true c.loop-k.map c.loop-k.invariant.charted);
}

pub returns : goal.returns
returns c =
    chart-end c.args.count c.loop-k.k c.loop-k-test.false (drop c.loop-k.at c.args.t.now) c.loop-k.map c.loop-k.invariant.charted
