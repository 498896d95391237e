-- `put_line` lays the digits and the newline behind them. Assumes nothing.
use Rattle.frames.proofs.Lines.{line-laid}
use Rattle.frames.proofs.put_line.Goals as goal

pub returns : goal.returns
returns c =
    line-laid _ _ c.args.at c.args.frame.now c.put_hex.ensures
