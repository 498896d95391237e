-- Where, the line and why. Assumes nothing.
use borrow.Author.Rules.{rules}
use Rattle.figures.proofs.Writing.{called, from_front, then}
use Rattle.halts.proofs.stopped.Goals as goal

pub returns : goal.returns
returns c =
    from_front c.new-told.ensures
    (called (rw (
      c.shown_before-before.ensures,
      c.wide-under.ensures,
      c.shown_line-line.ensures,
      c.reason-why.ensures,
      c.spot_at-spot.ensures,
    )) (then c.put_head.ensures (then c.put_line.ensures c.put_under.ensures)))
    c.end.ensures (search rules)
