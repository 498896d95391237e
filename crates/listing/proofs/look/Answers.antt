-- `look` hands over a text that is within the limit; over it the text is refused. Assumes nothing.
use Rattle.listing.proofs.Looking.{too_long}
use Rattle.listing.proofs.look.Goals as goal

pub returns-then-src-le-TEXT_LIMIT : goal.returns-then-src-le-TEXT_LIMIT
returns-then-src-le-TEXT_LIMIT c =
    c.look_apart.ensures

pub returns : goal.returns
returns c =
    too_long _ c.args.key c.args.address c.args.src.now c.if-src-le-TEXT_LIMIT.false (c.nothing.ensures c.args.key c.args.address)
