-- `translate` hands over a text that is within the limit; over it the text is refused. Then line and column are told. Assumes nothing.
use Rattle.translate.proofs.Groups.{as_one, too_long}
use Rattle.translate.proofs.translate.Goals as goal

pub returns-then-src-le-TEXT_LIMIT : goal.returns-then-src-le-TEXT_LIMIT
returns-then-src-le-TEXT_LIMIT c =
    rw c.stand.ensures (as_one _ c.sized-answer.ensures)

pub returns : goal.returns
returns c =
    rw c.stand-2.ensures (as_one c.args.src.now (too_long c.args.src.now c.args.out.now c.if-src-le-TEXT_LIMIT.false))
