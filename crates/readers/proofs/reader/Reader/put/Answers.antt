-- `put` stores one event. Assumes nothing.
use Rattle.std.proofs.Common.{refl}
use Rattle.readers.proofs.reader.Reader.put.Goals as goal

pub returns : goal.returns
returns c = record { tape = c.put.ensures; same = refl; here = refl; events = refl; name = refl }
