-- Tokens 1 to 25 mean the registers and the functions. Assumes nothing.
use mathlib.Core.Path.{refl, ◌∙◌}
use Rattle.meanings.proofs.Views as views
use Rattle.ledger.specs.Book.{wide_of}
use Rattle.meanings.specs.Flat.{standard_named}
use borrow.Author.Rules.{rules}
use Rattle.meanings.proofs.name_standard.Goals as goal

pub loop-n-init : goal.loop-n-init
unfolding standard_named
loop-n-init c =
    (refl, refl)

pub loop-n-preserved : goal.loop-n-preserved
loop-n-preserved c = (
  c.put_mean.ensures
      ∙ views.one-named (wide_of c.args.wide.now) _ _ _
      c.loop-n.invariant.0 c.standard_meaning.ensures,
  search rules,
)
