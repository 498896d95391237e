-- `width` takes a type, as its width. Assumes nothing.
use Rattle.std.proofs.Common.{arith, rules, refl}
use borrow.Author.Tests.{ne_eqb}
use Rattle.base.proofs.Tests.{same, other}
use Rattle.grammar.specs.Grammar as G
use Rattle.grammar.specs.Reader.{and_then, look, want_one}
use Rattle.readers.proofs.Reading.{passed, stays, seen}
use Rattle.phrases.proofs.declarations.width.Goals as goal

pub returns-then-k-eq-INTEGER-clause-read : goal.returns-then-k-eq-INTEGER-clause-read
unfolding G.type_of and_then look want_one
returns-then-k-eq-INTEGER-clause-read c =
    let t = c.take.ensures.moved in
    rw (same c.kind-k.ensures.is c.if-k-eq-INTEGER.true, ← t.same, ← t.there) (seen (refl, search rules) (omega arith), omega arith)

pub returns-then-k-eq-LOGICAL-clause-read : goal.returns-then-k-eq-LOGICAL-clause-read
unfolding G.type_of and_then look want_one
returns-then-k-eq-LOGICAL-clause-read c =
    let t = c.take-then-k-eq-LOGICAL.ensures.moved in
    rw (same c.kind-k.ensures.is c.if-k-eq-LOGICAL.true, ← t.same, ← t.there) (seen (refl, search rules) (omega arith), omega arith)

pub returns-then-k-eq-BYTE-clause-read : goal.returns-then-k-eq-BYTE-clause-read
unfolding G.type_of and_then look want_one
returns-then-k-eq-BYTE-clause-read c =
    let t = c.take-then-k-eq-BYTE.ensures.moved in
    rw (same c.kind-k.ensures.is c.if-k-eq-BYTE.true, ← t.same, ← t.there) (seen (refl, search rules) (omega arith), omega arith)

pub returns-then-k-eq-CHARACTER-clause-read : goal.returns-then-k-eq-CHARACTER-clause-read
unfolding G.type_of and_then look want_one
returns-then-k-eq-CHARACTER-clause-read c =
    let t = c.take-then-k-eq-CHARACTER.ensures.moved in
    rw (same c.kind-k.ensures.is c.if-k-eq-CHARACTER.true, ← t.same, ← t.there) (seen (refl, search rules) (omega arith), omega arith)

pub returns-then-k-ne-SHORT-clause-read : goal.returns-then-k-ne-SHORT-clause-read
unfolding G.type_of and_then look want_one
returns-then-k-ne-SHORT-clause-read c =
    rw (
      ne_eqb _ _ (other c.kind-k.ensures.is c.if-k-eq-INTEGER.false),
      ne_eqb _ _ (other c.kind-k.ensures.is c.if-k-eq-LOGICAL.false),
      ne_eqb _ _ (other c.kind-k.ensures.is c.if-k-eq-BYTE.false),
      ne_eqb _ _ (other c.kind-k.ensures.is c.if-k-eq-CHARACTER.false),
      ne_eqb _ _ (other c.kind-k.ensures.is c.if-k-ne-SHORT.true),
    )
    (record { is = refl; same = refl; onward = omega arith })

pub returns-in_err-wanted-clause-read : goal.returns-in_err-wanted-clause-read
unfolding G.type_of and_then look want_one
returns-in_err-wanted-clause-read c =
    let t = c.take-2.ensures.moved in
    let integer = c.in_err-wanted.ensures.read in
    rw (passed c.from_residual.ensures, same c.kind-k.ensures.is c.if-k-ne-SHORT.false, ← t.same, ← t.there, integer.is) (stays integer (omega arith))

pub returns-clause-read : goal.returns-clause-read
unfolding G.type_of and_then look want_one
returns-clause-read c =
    let t = c.take-2.ensures.moved in
    let integer = c.in_ok-wanted.ensures.read in
    rw (same c.kind-k.ensures.is c.if-k-ne-SHORT.false, ← t.same, ← t.there, integer.is, ← integer.same)
    (seen (refl, search rules) (omega arith), omega arith)
