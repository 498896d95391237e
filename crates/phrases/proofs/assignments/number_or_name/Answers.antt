-- `number_or_name` takes a number or a name, and refuses any other token. Assumes nothing.
use Rattle.std.proofs.Common.{arith, refl}
use borrow.Author.Tests.{ne_eqb}
use Rattle.base.proofs.Tests.{same, other}
use Rattle.grammar.specs.Reader.{want_one}
use Rattle.phrases.proofs.assignments.number_or_name.Goals as goal

pub returns-then-k-eq-NUMBER-clause-read : goal.returns-then-k-eq-NUMBER-clause-read
unfolding want_one
returns-then-k-eq-NUMBER-clause-read c =
    let m = c.take.ensures.moved in
    record {
      is = rw (c.take.ensures.token, m.there, same c.kind-k.ensures.is c.if-k-eq-NUMBER.true) refl;
      same = m.same;
      from = omega arith;
      onward = omega arith;
    }

pub returns-then-k-eq-NAME-clause-read : goal.returns-then-k-eq-NAME-clause-read
unfolding want_one
returns-then-k-eq-NAME-clause-read c =
    let m = c.take-then-k-eq-NAME.ensures.moved in
    record {
      is = rw (c.take-then-k-eq-NAME.ensures.token, m.there, same c.kind-k.ensures.is c.if-k-eq-NAME.true) refl;
      same = m.same;
      from = omega arith;
      onward = omega arith;
    }

pub returns-clause-read : goal.returns-clause-read
unfolding want_one
returns-clause-read c =
    record {
      is = rw (ne_eqb _ _ (other c.kind-k.ensures.is c.if-k-eq-NUMBER.false), ne_eqb _ _ (other c.kind-k.ensures.is c.if-k-eq-NAME.false)) refl;
      same = refl;
      onward = omega arith;
    }
