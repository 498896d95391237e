-- `read` lays the names in front and the text's tokens behind them. Assumes nothing.
use Rattle.settled.proofs.Reading.{fronted-all}
use Rattle.ledger.proofs.Columns.{wide-length}
use Rattle.ledger.specs.Book.{wide_of}
use mathlib.Core.Path.{◌∙◌}
use native.Mathlib.Omega.{arith}
use Rattle.settled.proofs.read.Goals as goal

pub lay_tokens-requires : goal.lay_tokens-requires
lay_tokens-requires c =
    (c.requires.0, omega (arith, c.requires.1, c.put_front.auto.kinds))

pub shape_of-kinds : goal.shape_of-kinds
shape_of-kinds c =
    c.lay_tokens.auto.kinds ∙ c.put_front.auto.kinds

pub shape_of-wide : goal.shape_of-wide
shape_of-wide c =
    c.lay_tokens.auto.wide ∙ c.put_front.auto.wide

pub returns : goal.returns
returns c =
    fronted-all c.args.src.now c.args.kinds.now _ _ (wide_of c.args.wide.now) _ _ _ c.requires.1 (omega (
      arith,
      wide-length 0
          c.args.wide.now,
      c.requires.2,
    )) c.put_front.ensures.0 c.put_front.ensures.1 c.lay_tokens.ensures
