-- A procedure keeps the one around it. Assumes nothing.
use Rattle.meanings.proofs.Moves as moves
use Rattle.meanings.proofs.enter_procedure.Goals as goal

pub returns : goal.returns
returns c =
    λ outer. moves.entered-procedure c.args.owners.now outer
    c.args.s c.args.t c.requires
    c.put_wide.ensures
