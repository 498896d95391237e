-- `use_at` uses the register and then the name. Assumes nothing.
use Rattle.names.specs.Flat.{Searching, naming}
use Rattle.names.specs.Naming.{use_at, use_place}
use Rattle.ledger.specs.Book.{wide_of}
use mathlib.Core.Path.{ap, ◌∙◌}
use Rattle.names.proofs.use_at.Goals as goal

pub returns : goal.returns
unfolding use_at
returns c =
    rw (← c.shape.ensures) (c.use_place.ensures
    ∙ ap (λ (s : Searching). naming c.args.b
    (use_place (wide_of c.args.wide.now).values
    c.shape.result c.args.t) s)
    c.use_register.ensures)
