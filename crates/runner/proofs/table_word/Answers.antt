-- `table_word` follows the definition's test. Assumes nothing.
use mathlib.Core.Path.{◌∙◌}
use Rattle.runner.proofs.Loads.{word_fits, word_out}
use Rattle.runner.proofs.table_word.Goals as goal

pub returns-then-k-l : goal.returns-then-k-l
returns-then-k-l c =
    c.store.ensures ∙ word_fits c.args.l
    c.args.k _ c.if-k-l.true

pub returns-else-k-l : goal.returns-else-k-l
returns-else-k-l c =
    word_out c.args.l c.args.k _ c.if-k-l.false
