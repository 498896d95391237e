-- `assignment` joins its parts: target, sign, first operand, terms. Assumes nothing.
use Rattle.std.proofs.Common.{arith, ◌∙◌}
use Rattle.grammar.specs.Grammar as G
use Rattle.grammar.specs.Reader.{and_then}
use Rattle.tape.specs.Tape.{tape_assignment}
use Rattle.readers.proofs.Reading.{passed, stays, gives}
use Rattle.phrases.proofs.assignments.assignment.Goals as goal

pub returns-in_err-place-clause-read : goal.returns-in_err-place-clause-read
unfolding G.assignment_of G.assigned_to and_then
returns-in_err-place-clause-read c =
    let target = c.in_err-place.ensures.read in rw (passed c.from_residual.ensures, target.is) (stays target (omega arith))

pub returns-in_err-wanted-clause-read : goal.returns-in_err-wanted-clause-read
unfolding G.assignment_of G.assigned_to and_then
returns-in_err-wanted-clause-read c =
    let becomes = c.in_err-wanted.ensures.read in
    let target = c.in_ok-place.ensures.read in
    rw (passed c.from_residual-in_err-wanted.ensures, target.is, ← target.same, becomes.is) (stays becomes (omega arith))

pub returns-in_err-operand-clause-read : goal.returns-in_err-operand-clause-read
unfolding G.assignment_of G.assigned_to and_then
returns-in_err-operand-clause-read c =
    let first = c.in_err-operand.ensures.read in
    let target = c.in_ok-place.ensures.read in
    let becomes = c.in_ok-wanted.ensures.read in
    let s = c.sign.ensures.read in
    rw (
      passed c.from_residual-in_err-operand.ensures,
      target.is,
      ← target.same,
      becomes.is,
      ← becomes.same,
      s.is,
      ← s.same,
      first.is,
    )
    (stays first (omega arith))

pub returns-clause-read : goal.returns-clause-read
unfolding G.assignment_of G.assigned_to and_then tape_assignment
returns-clause-read c =
    let target = c.in_ok-place.ensures.read in
    let becomes = c.in_ok-wanted.ensures.read in
    let still = c.in_ok-wanted.ensures.still in
    let s = c.sign.ensures.read in
    let signed = rw (still.events, still.tape) at s.laid in
    let first = c.in_ok-operand.ensures.read in
    rw (target.is, ← target.same, becomes.is, ← becomes.same, s.is, ← s.same, first.is, ← first.same)
    (gives _ _ (λ ts. record { target = target.what; sign = s.what; first = first.what; rest = ts }) _ _ _ _ _ _ _ _ _ _ (omega arith)
    (omega arith) (λ ts l k. l k ∙ (first.laid _ ∙ (signed _ ∙ target.laid _))) c.terms.ensures.read)
