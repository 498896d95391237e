-- `check_text` answers for texts that are too long, and reads all others. Assumes nothing.
use borrow.Author.Tests.{lt-ltb, le-ltb}
use Rattle.token.specs.Text.{tokens_of}
use Rattle.token_lists.proofs.check_text.Goals as goal

pub returns-then-src-gt-TEXT_LIMIT : goal.returns-then-src-gt-TEXT_LIMIT
unfolding tokens_of
returns-then-src-gt-TEXT_LIMIT c =
    rw (lt-ltb _ _ c.if-src-gt-TEXT_LIMIT.true)

pub returns : goal.returns
unfolding tokens_of
returns c =
    rw (le-ltb _ _ c.if-src-gt-TEXT_LIMIT.false) c.lay_kinds.ensures.is
