-- A name, the signed number and the 32 bits, piece by piece. Assumes nothing.
use Rattle.figures.proofs.Writing.{then}
use Rattle.reports.proofs.put_value.Goals as goal

pub returns : goal.returns
returns c =
    then (then (then (then (then c.put_all.ensures c.put_all-2.ensures) c.put_signed.ensures) c.put_all-3.ensures) c.put_hexadecimal.ensures) c.put_all-4.ensures
