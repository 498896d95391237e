-- What is declared at the token, by its packed meaning. Assumes nothing.
use Rattle.ledger.specs.Book.{wide_of}
use Rattle.tables.specs.Packed.{based_in}
use Rattle.listing.proofs.Siting.{sited-here, sited-else}
use Rattle.listing.proofs.sited.Goals as goal

pub returns-then-is_cell-value : goal.returns-then-is_cell-value
unfolding based_in
returns-then-is_cell-value c =
    rw (
      c.under.ensures,
      c.offset.ensures,
      c.element_size.ensures.0,
      c.number.ensures.0,
      c.is_array.ensures,
      c.is_some.ensures,
      c.mean-m.ensures,
    ) (sited-here (wide_of c.args.wide.now) c.args.key c.args.t c.args.later (rw (
      c.is_cell.ensures,
      c.mean-m.ensures,
      c.value.ensures,
    ) at c.if-is_cell-value.true))

pub returns : goal.returns
returns c =
    sited-else (wide_of c.args.wide.now) c.args.key c.args.t c.args.later (rw (
      c.is_cell.ensures,
      c.mean-m.ensures,
      c.value.ensures,
    ) at c.if-is_cell-value.false)
