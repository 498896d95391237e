-- `put_data` lays the head and the content behind it. Assumes nothing.
use Rattle.base.specs.Numbers.{bytes_of}
use Rattle.frames.proofs.put_data.Goals as goal

pub returns : goal.returns
unfolding bytes_of
returns c =
    c.put_segment.ensures
