-- `is_line` is the definition's line. The invariant: the rest of the line at the place reached decides the whole. Assumes nothing.
use Prim.Native.Nat.{◌+◌, ◌-◌, ◌*◌}
use mathlib.Core.Path.{◌≡◌}
use lib.ListN.{drop}
use Rattle.objtext.specs.Reader.{is_line}
use Rattle.objtext.proofs.is_line.Given as goal

abbrev pub invariant-loop-j : goal.invariant-loop-j
invariant-loop-j l = is_line (l.n - l.j) (drop (l.i + 2 * l.j) l.t) ≡ is_line l.n (drop l.i l.t)
