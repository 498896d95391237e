-- `put_segment` lays the head and the content behind it. Assumes nothing.
use Rattle.std.proofs.Common.{rules}
use Rattle.frames.proofs.Objects.{segment-laid}
use Rattle.frames.proofs.put_segment.Goals as goal

pub returns : goal.returns
returns c =
    (search rules, segment-laid c.args.out.now _ _ c.args.at c.args.k c.args.head.now c.args.content.now c.put_line.ensures c.put_content.ensures.1)
