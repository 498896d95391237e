-- A base declaration changes the base in force. Assumes nothing.
use native.Mathlib.Omega.{arith}
use Rattle.meanings.proofs.Moves as moves
use Rattle.ledger.specs.Book.{wide_of, thin_of}
use Rattle.meanings.proofs.change_base.Goals as goal

pub returns : goal.returns
returns c =
    λ under owners outer. moves.changed-base owners outer c.args.s
    (thin_of c.args.thin.now).found (wide_of c.args.wide.now).means under
    c.args.t c.args.bases _ _ (omega (arith, c.requires))
    c.meaning.ensures c.register-r.ensures.0
