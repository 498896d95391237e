-- `lay` goes word by word. The invariant: the whole is what the words that are left make of the storage and the fault so far. Assumes nothing.
use Prim.Native.Nat.{◌-◌}
use mathlib.Core.Path.{◌≡◌}
use Rattle.settings.specs.Setting.{words_from}
use Rattle.cells.specs.Setting.{laying_of, lay_next, laid_by}
use Rattle.cells.proofs.lay.Given as goal

abbrev pub invariant-loop-n : goal.invariant-loop-n
invariant-loop-n l =
    laid_by l.source l.words l.initial.store ≡ words_from (lay_next l.source) l.words (l.count - l.n) l.n (laying_of l.store l.x)
