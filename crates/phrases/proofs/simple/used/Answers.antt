-- `used` writes a call, or a use with its arguments and its end. Assumes nothing.
use Rattle.std.proofs.Common.{arith, ◌∙◌}
use borrow.Author.Tests.{ne_eqb}
use Rattle.base.proofs.Tests.{same, other}
use Rattle.grammar.specs.Grammar as G
use Rattle.grammar.specs.Reader.{and_then, look}
use Rattle.tape.specs.Tape.{tape_statement}
use Rattle.readers.proofs.Reading.{passed, stays, wrote}
use Rattle.std.proofs.Common.{◌≡◌, get_or}
use Rattle.token.specs.Kinds as K
use Rattle.phrases.proofs.Targets.{full, use-tape}
use Rattle.phrases.proofs.simple.used.Goals as goal

pub returns-then-kind-ne-OPEN-clause-read : goal.returns-then-kind-ne-OPEN-clause-read
unfolding G.arguments and_then look tape_statement
returns-then-kind-ne-OPEN-clause-read c =
    let w = c.write.ensures in
    rw (ne_eqb _ _ (other c.kind.ensures.is c.if-kind-ne-OPEN.true), ← w.same, ← w.here) (wrote w.laid (omega arith) (omega arith))

pub arguments-requires : goal.arguments-requires
arguments-requires c =
    let w = c.write-2.ensures in rw (w.same, w.here) (same c.kind.ensures.is c.if-kind-ne-OPEN.false)

pub returns-in_err-arguments-clause-read : goal.returns-in_err-arguments-clause-read
unfolding and_then
returns-in_err-arguments-clause-read c =
    let w = c.write-2.ensures in
    let row = c.in_err-arguments.ensures.read in rw (passed c.from_residual.ensures, ← w.same, ← w.here, row.is) (stays row (omega arith))

pub returns-clause-read : goal.returns-clause-read
unfolding and_then
returns-clause-read c =
    let w = c.write-2.ensures in
    let row = c.in_ok-arguments.ensures.read.0 in
    let far = c.in_ok-arguments.ensures.read.1 in
    let e = c.write-3.ensures in
    let begins : get_or c.write-2.new.self.kinds.now c.write-2.new.self.at 0 ≡ K.OPEN = rw (w.same, w.here) (same c.kind.ensures.is c.if-kind-ne-OPEN.false) in
    let h = full _ _ _ _ row.what begins row.is in
    rw (← w.same, ← w.here, row.is, ← row.same, ← e.same, ← e.here)
    (wrote (λ k. rw (← use-tape _ row.what h k) (e.laid k ∙ (row.laid _ ∙ w.laid _))) (omega arith) (omega arith))
