-- `write_object` lays the segments one behind the other, and the last line. Assumes nothing.
use borrow.Author.Rules.{rules}
use Rattle.frames.proofs.Objects.{object-laid}
use Rattle.frames.specs.Frames.{length_for}
use Rattle.frames.proofs.write_object.Goals as goal

pub put_program-data-requires : goal.put_program-data-requires
unfolding length_for
put_program-data-requires c =
    search rules

pub put_data-later-requires : goal.put_data-later-requires
unfolding length_for
put_data-later-requires c =
    search rules

pub put_later-last-requires : goal.put_later-last-requires
unfolding length_for
put_later-last-requires c =
    search rules

pub put_line-requires : goal.put_line-requires
unfolding length_for
put_line-requires c =
    search rules

pub returns : goal.returns
returns c =
    object-laid c.args.code.now c.args.first.now c.args.to c.args.bases c.args.second.now c.args.third.now
    c.args.out.now _ _ _ _ c.put_program-data.result c.put_data-later.result c.put_later-last.result
    c.put_program-data.ensures.0 c.put_data-later.ensures.0 c.put_later-last.ensures.0
    c.put_program-data.ensures.1 c.put_data-later.ensures.1 c.put_later-last.ensures.1 c.put_line.ensures
