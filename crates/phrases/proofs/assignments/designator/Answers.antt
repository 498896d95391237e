-- `designator` reads what follows a name: a chain of parts, or the first that is refused. Assumes nothing.
use Rattle.std.proofs.Common.{arith, rules, refl}
use borrow.Author.Tests.{eq-eqb, ne_eqb}
use Rattle.base.proofs.Tests.{same, other}
use Rattle.grammar.specs.Grammar as G
use Rattle.grammar.specs.Reader.{and_then, look, next}
use Rattle.readers.proofs.Reading.{passed, stays, seen}
use Rattle.phrases.proofs.assignments.designator.Goals as goal

pub returns-then-kind-ne-OPEN-clause-read : goal.returns-then-kind-ne-OPEN-clause-read
unfolding G.designator_of and_then look next
returns-then-kind-ne-OPEN-clause-read c =
    rw (ne_eqb _ _ (other c.kind.ensures.is c.if-kind-ne-OPEN.true)) (seen (refl, refl, search rules) (omega arith))

pub returns-in_err-number_or_name-clause-read : goal.returns-in_err-number_or_name-clause-read
unfolding G.designator_of and_then look next
returns-in_err-number_or_name-clause-read c =
    let t = c.take.ensures.moved in
    let one = c.in_err-number_or_name.ensures.read in
    rw (passed c.from_residual.ensures, eq-eqb _ _ (same c.kind.ensures.is c.if-kind-ne-OPEN.false), ← t.same, ← t.there, one.is) (stays one (omega arith))

pub returns-in_err-wanted-clause-read : goal.returns-in_err-wanted-clause-read
unfolding G.designator_of and_then look next
returns-in_err-wanted-clause-read c =
    let t = c.take.ensures.moved in
    let one = c.in_ok-number_or_name.ensures.read in
    let close = c.in_err-wanted.ensures.read in
    rw (passed c.from_residual-in_err-wanted.ensures, eq-eqb _ _ (same c.kind.ensures.is c.if-kind-ne-OPEN.false), ← t.same, ← t.there, one.is, ← one.same, close.is) (stays close (omega arith))

pub returns-then-k-eq-NAME-clause-read : goal.returns-then-k-eq-NAME-clause-read
unfolding G.designator_of and_then look next
returns-then-k-eq-NAME-clause-read c =
    let t = c.take.ensures.moved in
    let one = c.in_ok-number_or_name.ensures.read in
    let close = c.in_ok-wanted.ensures.read in
    rw (
      eq-eqb _ _ (same c.kind.ensures.is c.if-kind-ne-OPEN.false),
      ← t.same,
      ← t.there,
      eq-eqb _ _ (same c.kind-k.ensures.is c.if-k-eq-NAME.true),
      one.is,
      ← one.same,
      close.is,
      ← close.same,
    )
    (seen (refl, refl, search rules) (omega arith))

pub returns-then-kind-ne-OPEN-2-clause-read : goal.returns-then-kind-ne-OPEN-2-clause-read
unfolding G.designator_of and_then look next
returns-then-kind-ne-OPEN-2-clause-read c =
    let t = c.take.ensures.moved in
    let one = c.in_ok-number_or_name.ensures.read in
    let close = c.in_ok-wanted.ensures.read in
    rw (
      eq-eqb _ _ (same c.kind.ensures.is c.if-kind-ne-OPEN.false),
      ← t.same,
      ← t.there,
      ne_eqb _ _ (other c.kind-k.ensures.is c.if-k-eq-NAME.false),
      one.is,
      ← one.same,
      close.is,
      ← close.same,
      ne_eqb _ _ (other c.kind-2.ensures.is c.if-kind-ne-OPEN-2.true),
    )
    (seen (refl, refl, search rules) (omega arith))

pub returns-in_err-in_parens-clause-read : goal.returns-in_err-in_parens-clause-read
unfolding G.designator_of and_then look next
returns-in_err-in_parens-clause-read c =
    let t = c.take.ensures.moved in
    let one = c.in_ok-number_or_name.ensures.read in
    let close = c.in_ok-wanted.ensures.read in
    let index = c.in_err-in_parens.ensures.read in
    rw (
      passed c.from_residual-in_err-in_parens.ensures,
      eq-eqb _ _ (same c.kind.ensures.is c.if-kind-ne-OPEN.false),
      ← t.same,
      ← t.there,
      ne_eqb _ _ (other c.kind-k.ensures.is c.if-k-eq-NAME.false),
      one.is,
      ← one.same,
      close.is,
      ← close.same,
      eq-eqb _ _ (same c.kind-2.ensures.is c.if-kind-ne-OPEN-2.false),
      index.is,
    )
    (stays index (omega arith))

pub returns-clause-read : goal.returns-clause-read
unfolding G.designator_of and_then look next
returns-clause-read c =
    let t = c.take.ensures.moved in
    let one = c.in_ok-number_or_name.ensures.read in
    let close = c.in_ok-wanted.ensures.read in
    let index = c.in_ok-in_parens.ensures.read in
    rw (
      eq-eqb _ _ (same c.kind.ensures.is c.if-kind-ne-OPEN.false),
      ← t.same,
      ← t.there,
      ne_eqb _ _ (other c.kind-k.ensures.is c.if-k-eq-NAME.false),
      one.is,
      ← one.same,
      close.is,
      ← close.same,
      eq-eqb _ _ (same c.kind-2.ensures.is c.if-kind-ne-OPEN-2.false),
      index.is,
      ← index.same,
    )
    (seen (refl, refl, search rules) (omega arith))
