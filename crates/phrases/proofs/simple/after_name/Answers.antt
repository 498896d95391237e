-- `after_name` goes by whether the name begins a target. Assumes nothing.
use Rattle.std.proofs.Common.{arith, ◌∙◌}
use Rattle.grammar.specs.Tree as T
use Rattle.tape.specs.Tape.{tape_statement}
use Rattle.readers.proofs.Reading.{gives}
use Rattle.std.proofs.Common.{sym}
use Rattle.phrases.proofs.Targets.{target-read, use-read}
use Rattle.phrases.proofs.simple.after_name.Goals as goal

pub returns-then-is_target-clause-read : goal.returns-then-is_target-clause-read
unfolding tape_statement
returns-then-is_target-clause-read c =
    let m = c.is_target.ensures.kept in
    rw (
      target-read _ _ _ c.requires.1.0 (sym c.is_target.ensures.target ∙ c.if-is_target.true) c.requires.1.1,
      ← m.there,
      ← m.same,
      ← m.events,
      ← m.tape,
    )
    (gives _ _ T.assign _ _ _ _ _ _ _ _ _ _ (omega arith) (omega arith) (λ a l. l) c.assignment.ensures.read)

pub returns-clause-read : goal.returns-clause-read
returns-clause-read c =
    let m = c.is_target.ensures.kept in
    rw (
      use-read _ _ _ c.requires.1.0 (sym c.is_target.ensures.target ∙ c.if-is_target.false) c.requires.1.1,
      ← m.there,
      ← m.same,
      ← m.events,
      ← m.tape,
    )
    c.used.ensures.read
