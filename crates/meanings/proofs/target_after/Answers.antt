-- A target, a control, the register of a CASE and an argument that is written name a new target, by what they mean; another argument is none; every other event leaves it.
use borrow.Author.Tests.{ne_eqb}
use Rattle.meanings.proofs.Changes as changes
use Rattle.meanings.specs.Along.{target_after}
use Rattle.ledger.specs.Book.{wide_of, thin_of}
use Rattle.meanings.proofs.target_after.Goals as goal

pub returns-then-k-op : goal.returns-then-k-op
unfolding target_after
returns-then-k-op c =
    λ under. let args = c.args in rw (← c.family-k.ensures, ← c.form-named.ensures.0, c.if-k-op.true)
    (changes.target_at (thin_of args.thin.now).found (wide_of args.wide.now).means under args.t _ _ c.meaning.ensures
    c.target_of.ensures)

pub returns-then-argued : goal.returns-then-argued
unfolding target_after
returns-then-argued c =
    λ under. rw (← c.family-k.ensures, ← c.form-named.ensures.0, c.if-k-op.false, c.if-argued.true)

pub returns : goal.returns
unfolding target_after
returns c =
    λ under. rw (← c.family-k.ensures, ← c.form-named.ensures.0, c.if-k-op.false, ne_eqb _ _ c.if-argued.false)
