-- `event` knows of an event by value what its definition says by the lists. Assumes nothing.
use Rattle.emit.specs.Books.{wide_in, thin_in}
use Rattle.emit.proofs.Knowing.{codes-known, written_known}
use Rattle.emit.proofs.event.Goals as goal

pub returns : goal.returns
returns c =
    let a = c.args in
    let f = c.family-family.ensures in
    let s = c.form.ensures.0 in
    let u = c.operand-u.ensures in
    let r = c.register_at-register.ensures in
    let codes = codes-known a.book.kinds.now (wide_in a.book) (thin_in a.book) a.op a.t a.w f s u r c.goal_at-goal.ensures.0 c.codes_of-codes.ensures in
    let written = written_known a.book.kinds.now (wide_in a.book) (thin_in a.book) a.op a.t a.w f s u r c.written_after-writing.ensures in
    rw (codes, written)
