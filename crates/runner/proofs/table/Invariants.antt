-- `table` enters each word. The invariant: the words that are left make the whole. Assumes nothing.
use Prim.Native.Nat.{◌-◌}
use mathlib.Core.Path.{◌≡◌}
use Rattle.runner.specs.Load.{tabled}
use Rattle.runner.proofs.table.Given as goal

abbrev pub invariant-loop-k : goal.invariant-loop-k
invariant-loop-k l = tabled l.l (l.count - l.k) l.k l.s ≡ tabled l.l l.count 0 l.initial.s
