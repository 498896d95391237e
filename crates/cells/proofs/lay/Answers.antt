-- `lay` goes word by word. Assumes nothing.
use Rattle.settings.proofs.Going.{word_on, words-end}
use Rattle.cells.specs.Setting.{Laid, laid_by}
use mathlib.Core.Path.{ap}
use Rattle.cells.proofs.lay.Goals as goal

pub loop-n-init : goal.loop-n-init
unfolding laid_by
loop-n-init c =
    rw c.part_count-count.ensures.0

pub loop-n-preserved : goal.loop-n-preserved
loop-n-preserved c =
    rw (
      c.faulted-x.ensures,
      ap (λ (w : Laid). w.store) c.lay_word-how.ensures,
      ap (λ (w : Laid). w.how) c.lay_word-how.ensures,
      c.part-in-loop-n.ensures,
      c.run_option-option.ensures,
      c.part.ensures,
    ) (word_on _ _ _ _ _ c.loop-n.invariant c.loop-n-test.true)

pub returns : goal.returns
returns c =
    words-end _ _ _ _ _ c.loop-n.invariant c.loop-n-test.false
