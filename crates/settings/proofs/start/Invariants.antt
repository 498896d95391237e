-- `start` goes word by word. The invariant: the whole is what the words that are left make of the registers so far. Assumes nothing.
use Rattle.std.specs.Prelude.{Ok}
use Rattle.settings.specs.Setting.{words_from, said_in, start_of}
use mathlib.Core.Path.{◌≡◌}
use Prim.Native.Nat.{◌-◌}
use Rattle.settings.proofs.start.Given as goal

abbrev pub invariant-loop-n : goal.invariant-loop-n
invariant-loop-n l =
    start_of l.words l.source ≡ words_from (said_in l.source) l.words (l.count - l.n) l.n (Ok l.values)
