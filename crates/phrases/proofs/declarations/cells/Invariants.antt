-- `cells` goes along a list of cells: whatever reads the rest reads the whole. Assumes nothing.
use Rattle.std.proofs.Common.{◌-◌, length}
use Rattle.grammar.specs.Grammar.{list_of, cell_item}
use Rattle.tape.specs.Tape.{tape_each, tape_item}
use Rattle.readers.proofs.Loops.{Going}
use Rattle.phrases.proofs.declarations.cells.Given as goal

abbrev pub invariant-loop-r : goal.invariant-loop-r
invariant-loop-r l =
    Going (tape_each tape_item) (list_of cell_item) l.initial.r l.r

abbrev pub decreases-loop-r : goal.decreases-loop-r
decreases-loop-r l =
    length l.initial.r.kinds.now - l.r.at
