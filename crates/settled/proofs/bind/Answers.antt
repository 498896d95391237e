-- `bind` finds names, then labels: on the tape of a program what the definition finds. The columns worked in are zeros then. Assumes nothing.
use Rattle.settled.proofs.Judging.{bound, cleared}
use Rattle.ledger.proofs.Columns.{wide-length, thin-length}
use Rattle.ledger.specs.Book.{Thin, thin_of, on_thin, zeros}
use mathlib.Core.Path.{ap, ◌∙◌}
use native.Mathlib.Omega.{arith}
use Rattle.settled.proofs.bind.Goals as goal

pub names-n-requires : goal.names-n-requires
names-n-requires c =
    (c.requires.0, (omega (arith, c.requires.1), c.requires.2))

pub labels-l-requires : goal.labels-l-requires
labels-l-requires c =
    (c.requires.0, omega (arith, c.requires.1, c.requires.2))

pub shape_of-thin : goal.shape_of-thin
shape_of-thin c =
    c.clear_written.auto.thin ∙ (c.clear_opens.auto.thin ∙ (c.labels-l.auto.thin ∙ c.names-n.auto.thin))

pub returns : goal.returns
returns c =
    let after = c.clear_written.ensures ∙ ap (on_thin 3 zeros) c.clear_opens.ensures in let same = c.names-n.auto.thin in (
      cleared c.args.thin.now c.labels-l.new.thin _ _ c.clear_opens.ensures c.clear_written.ensures (c.labels-l.auto.thin ∙ same),
      λ ts x t bf bg. bound ts x _ _ t (thin_of c.args.thin.now) (thin_of c.names-n.new.thin) (thin_of c.labels-l.new.thin) (thin_of c.clear_written.new.thin) _ _ _ (omega (
        arith,
        wide-length 0 c.args.wide.now,
        thin-length 2 c.names-n.new.thin,
        same,
        c.requires.3,
      )) (omega (
        arith,
        wide-length 0 c.args.wide.now,
        thin-length 3 c.names-n.new.thin,
        same,
        c.requires.3,
      )) bf bg c.names-n.ensures c.labels-l.ensures (ap (λ (b : Thin). b.found) after) (ap (λ (b :
          Thin). b.goes) after) c.join.ensures,
    )
