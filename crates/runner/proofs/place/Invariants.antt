-- `place` lays the program and then each data segment. The invariant: what is left to be placed, from the place reached, makes the whole. Assumes nothing.
use Prim.Native.Nat.{◌-◌, ◌*◌, ◌≤◌}
use mathlib.Core.Path.{◌≡◌}
use lib.ListN.{drop}
use Rattle.objtext.proofs.Walks.{Walked}
use Rattle.objtext.specs.Reader.{after_program, data_list}
use Rattle.runner.specs.Load.{placed}
use Rattle.runner.proofs.place.Given as goal

abbrev pub invariant-loop-k : goal.invariant-loop-k
invariant-loop-k l = record {
  few : l.count ≤ 4;
  near : l.at ≤ 11025 * l.k;
  walked : Walked (l.count - l.k) l.k (drop l.at l.t);
  placed : placed l.k (data_list (l.count - l.k) (drop l.at l.t)) l.s ≡ placed 1 (data_list (l.count - 1) (after_program l.t)) l.initial.s;
}
