-- `name_or_word` tells a comment, a name and a reserved word apart by the key of the name. Assumes nothing.
use borrow.Author.Tests.{eq-eqb}
use Rattle.base.proofs.Tests.{tests}
use Rattle.scanner.proofs.Keys.{kind-of}
use Rattle.token.specs.Text.{name_or_word}
use Rattle.scanner.proofs.name_or_word.Goals as goal

pub returns-then-kind-eq-COMMENT : goal.returns-then-kind-eq-COMMENT
unfolding name_or_word
returns-then-kind-eq-COMMENT c =
    let n = c.name-d in rw (
      ← n.ensures.size,
      kind-of c.args.s.now n.result c.word-kind.result c.requires.0 c.requires.1
          n.ensures c.word-kind.ensures,
      eq-eqb c.word-kind.result 15 c.if-kind-eq-COMMENT.true,
    ) c.comment.ensures

pub returns-then-kind-eq-NAME : goal.returns-then-kind-eq-NAME
unfolding name_or_word
returns-then-kind-eq-NAME c =
    let n = c.name-d in rw (
      ← n.ensures.size,
      kind-of c.args.s.now n.result c.word-kind.result c.requires.0 c.requires.1
          n.ensures c.word-kind.ensures,
      ← n.ensures.value,
    ) (search tests)

pub returns : goal.returns
unfolding name_or_word
returns c =
    let n = c.name-d in rw (
      ← n.ensures.size,
      kind-of c.args.s.now n.result c.word-kind.result c.requires.0 c.requires.1
          n.ensures c.word-kind.ensures,
    ) (search tests)
