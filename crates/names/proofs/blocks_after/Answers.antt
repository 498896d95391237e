-- `blocks_after` does what the event asks: one law for each return. Assumes nothing.
use Rattle.names.proofs.Changes.{after_open, after-close, after-enter, after-other}
use Rattle.ledger.specs.Book.{thin_of}
use Rattle.ledger.proofs.Bounds.{declaring-noted}
use Rattle.base.proofs.Tests.{told}
use mathlib.Core.Path.{refl}
use Rattle.names.proofs.blocks_after.Goals as goal

pub returns-then-op-eq-BLOCK : goal.returns-then-op-eq-BLOCK
returns-then-op-eq-BLOCK c = (
  after_open _ _ (thin_of c.args.thin.now)
      c.args.b c.if-op-eq-BLOCK.true c.open_block.ensures.0,
  c.open_block.ensures.1,
)

pub returns-then-op-eq-END_BLOCK : goal.returns-then-op-eq-END_BLOCK
returns-then-op-eq-END_BLOCK c = (
  after-close _ _ (thin_of c.args.thin.now) c.args.b
      c.if-op-eq-BLOCK.false c.if-op-eq-END_BLOCK.true c.close_block.ensures,
  record { found-is = refl; goes-is = refl },
)

pub enter_name-requires : goal.enter_name-requires
enter_name-requires c = (
  c.requires.0.rising,
  (
    c.requires.0.wide,
    (
      c.requires.0.small,
      c.requires.1
          (declaring-noted c.args.op (told c.declares.ensures c.if-declares.true)),
    ),
  ),
)

pub returns-then-declares : goal.returns-then-declares
returns-then-declares c = (
  after-enter _ _ (thin_of c.args.thin.now) c.args.b c.if-op-eq-BLOCK.false c.if-op-eq-END_BLOCK.false
      (told c.declares.ensures c.if-declares.true) c.enter_name.ensures.0,
  c.enter_name.ensures.1,
)

pub returns : goal.returns
returns c = (
  after-other _ _ (thin_of c.args.thin.now) c.args.b
      c.if-op-eq-BLOCK.false c.if-op-eq-END_BLOCK.false (told c.declares.ensures c.if-declares.false)
      c.requires.0.rising,
  record { found-is = refl; goes-is = refl },
)
