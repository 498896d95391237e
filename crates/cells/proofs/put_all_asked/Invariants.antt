-- `put_all_asked` goes word by word. The invariant: the whole is what the words that are left add to what is said so far. Assumes nothing.
use Prim.Native.Nat.{ℕ, ◌-◌}
use mathlib.Core.List.{List}
use mathlib.Core.Path.{◌≡◌}
use Rattle.figures.specs.Writing.{Puts}
use Rattle.settings.specs.Setting.{words_from}
use Rattle.cells.specs.Showing.{said_also, all_asked}
use Rattle.cells.proofs.put_all_asked.Given as goal

abbrev pub invariant-loop-n : goal.invariant-loop-n
invariant-loop-n l =
    (said : List ℕ) × Puts said l.initial.text l.text × (all_asked l.source l.regs l.store l.words ≡ words_from (said_also l.source l.regs l.store) l.words (l.count - l.n) l.n said)
