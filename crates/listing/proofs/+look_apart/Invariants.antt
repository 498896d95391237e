-- `look_apart` hands a text to the function whose lists have room for it. A text over the limit, which would be cut, is not handed over: the length falls all the same.
-- Assumes nothing.
use lib.ListN.{length}
use Rattle.listing.proofs.+look_apart.Given as goal

abbrev pub decreases-look_apart : goal.decreases-look_apart
decreases-look_apart l = length l.src.now
