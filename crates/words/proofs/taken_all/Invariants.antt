-- `taken_all` takes word by word. The invariant: the whole is what the words that are left make of what the words so far say. Assumes nothing.
use Rattle.words.specs.Wishes.{taken_all, start_of}
use mathlib.Core.Path.{◌≡◌}
use Prim.Native.Nat.{◌-◌}
use Rattle.words.proofs.taken_all.Given as goal

abbrev pub invariant-loop-n : goal.invariant-loop-n
invariant-loop-n l =
    taken_all l.words (l.count - 1) 1 (start_of l.fn.command) ≡ taken_all l.words (l.count - l.n) l.n l.said
