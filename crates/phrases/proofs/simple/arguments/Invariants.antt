-- `arguments` goes along the row: whatever reads the rest reads the whole. Assumes nothing.
use Rattle.std.proofs.Common.{◌≡◌, ◌+◌, ◌-◌, ◌<◌, length, get_or}
use Rattle.token.specs.Kinds as K
use Rattle.grammar.specs.Grammar.{arguments}
use Rattle.tape.specs.Tape.{tape_each, tape_argument}
use Rattle.readers.proofs.Loops.{Going}
use Rattle.phrases.proofs.simple.arguments.Given as goal

abbrev pub invariant-loop-r : goal.invariant-loop-r
invariant-loop-r l =
    Going (tape_each tape_argument) arguments l.initial.r l.r × ((get_or l.r.kinds.now l.r.at 0 ≡ K.OPEN → ⊥) → l.r.events + l.initial.r.at < l.r.at + l.initial.r.events)

abbrev pub decreases-loop-r : goal.decreases-loop-r
decreases-loop-r l =
    length l.initial.r.kinds.now - l.r.at
