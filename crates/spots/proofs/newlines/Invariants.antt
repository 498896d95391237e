-- `newlines` counts along the bytes. The invariant: what is counted is of those before this one, and fits. Assumes nothing.
use Rattle.std.proofs.Common.{◌≡◌, ◌≤◌, eqb, take}
use Rattle.std.specs.List.{count_by}
use Rattle.spots.proofs.newlines.Given as goal

abbrev pub invariant-loop-b : goal.invariant-loop-b
invariant-loop-b l = record {
  is : l.n ≡ count_by (λ b. eqb b 10) (take l.b-index l.s);
  fits : l.n ≤ l.b-index;
}
