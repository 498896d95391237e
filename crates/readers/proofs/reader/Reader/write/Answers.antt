-- `write` puts one event more on the tape. Assumes nothing.
use Rattle.std.proofs.Common.{refl}
use Rattle.readers.proofs.reader.Reader.write.Goals as goal

pub returns : goal.returns
returns c = record { laid = c.write.ensures; same = refl; here = refl; events = refl; name = refl }
