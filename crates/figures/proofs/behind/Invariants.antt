-- `behind` passes over n separators. The invariant: what is behind them all is behind those that are left, from here on. Assumes nothing.
use Rattle.figures.specs.Parts.{behind}
use lib.ListN.{drop}
use mathlib.Core.Path.{◌≡◌}
use Rattle.figures.proofs.behind.Given as goal

abbrev pub invariant-loop-i : goal.invariant-loop-i
invariant-loop-i l =
    behind l.sep l.n l.s ≡ behind l.sep l.left (drop l.i l.s)
