-- `declaration` goes by its first token. Assumes nothing.
use Rattle.std.proofs.Common.{arith}
use borrow.Author.Tests.{ne_eqb}
use Rattle.base.proofs.Tests.{same, other}
use Rattle.grammar.specs.Grammar as G
use Rattle.grammar.specs.Reader.{and_then, look, next}
use Rattle.readers.proofs.Reading.{later}
use Rattle.phrases.proofs.declarations.declaration.Goals as goal

pub returns-then-k-eq-SEGMENT-clause-read : goal.returns-then-k-eq-SEGMENT-clause-read
unfolding G.declaration and_then look next
returns-then-k-eq-SEGMENT-clause-read c =
    let t = c.take.ensures.moved in
    rw (same c.kind-k.ensures.is c.if-k-eq-SEGMENT.true, ← t.same, ← t.there, ← t.events, ← t.tape)
    (later _ _ _ _ _ _ _ _ _ (omega arith) c.base.ensures.read)

pub returns-then-k-eq-ARRAY-clause-read : goal.returns-then-k-eq-ARRAY-clause-read
unfolding G.declaration and_then look next
returns-then-k-eq-ARRAY-clause-read c =
    let t = c.take-then-k-eq-ARRAY.ensures.moved in
    rw (same c.kind-k.ensures.is c.if-k-eq-ARRAY.true, ← t.same, ← t.there, ← t.events, ← t.tape)
    (later _ _ _ _ _ _ _ _ _ (omega arith) c.array.ensures.read)

pub returns-clause-read : goal.returns-clause-read
unfolding G.declaration and_then look next
returns-clause-read c =
    rw (ne_eqb _ _ (other c.kind-k.ensures.is c.if-k-eq-SEGMENT.false), ne_eqb _ _ (other c.kind-k.ensures.is c.if-k-eq-ARRAY.false)) c.typed.ensures.read
