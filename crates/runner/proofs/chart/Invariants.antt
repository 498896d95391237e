-- `chart` lays the numbers of each data head over the map by page. The invariant: the heads that are left, from the place reached, make the whole. Assumes nothing.
use Prim.Native.Nat.{◌-◌, ◌*◌, ◌≤◌}
use mathlib.Core.Path.{◌≡◌}
use lib.ListN.{drop}
use Rattle.objtext.proofs.Walks.{Walked}
use Rattle.objtext.specs.Reader.{after_program}
use Rattle.runner.specs.Charted.{charted}
use Rattle.runner.proofs.chart.Given as goal

abbrev pub invariant-loop-k : goal.invariant-loop-k
invariant-loop-k l = record {
  few : l.count ≤ 4;
  near : l.at ≤ 11025 * l.k;
  walked : Walked (l.count - l.k) l.k (drop l.at l.t);
  charted : charted (l.count - l.k) l.k (drop l.at l.t) l.map ≡ charted (l.count - 1) 1 (after_program l.t) l.initial.map;
}
