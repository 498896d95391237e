-- Two addresses are set. Assumes nothing.
use Rattle.code.specs.Places.{kept, mark_limit, on_marks}
use Rattle.ledger.specs.Book.{put_in, thin_limit}
use Prim.Native.Nat.{◌%◌}
use mathlib.Core.Path.{ap, ◌∙◌}
use Rattle.code.proofs.mark_limit.Goals as goal

pub returns : goal.returns
unfolding mark_limit kept
returns c =
    rw (← c.less.ensures, ← c.less-2.ensures, ← c.held.ensures) (c.put_mark-2.ensures ∙ ap (on_marks (put_in
    c.less-2.result (c.held.result % thin_limit))) c.put_mark.ensures)
