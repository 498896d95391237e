-- `put_all_asked` goes word by word. Assumes nothing.
use borrow.Author.Rules.{rules}
use mathlib.Core.List.{[]}
use Rattle.figures.proofs.Writing.{then, still, called, from_place}
use Rattle.settings.proofs.Going.{word_on, words-end}
use Rattle.cells.specs.Showing.{all_asked}
use Rattle.cells.proofs.put_all_asked.Goals as goal

pub loop-n-init : goal.loop-n-init
unfolding all_asked
loop-n-init c =
    ([], still, rw c.part_count-count.ensures.0)

pub loop-n-preserved : goal.loop-n-preserved
loop-n-preserved c =
    (_, then c.loop-n.invariant.1 c.put_asked.ensures, rw (c.part-name.ensures, c.run_option-option.ensures, c.part.ensures) (word_on _ _ _ _ _ c.loop-n.invariant.2 c.loop-n-test.true))

pub returns : goal.returns
returns c =
    from_place c.up_to-text.ensures (called (words-end _ _ _ _ _ c.loop-n.invariant.2 c.loop-n-test.false) c.loop-n.invariant.1) c.end.ensures (search rules)
