-- Five events move the protected registers; each move by its callee, and the other columns stay.
use Rattle.tape.specs.Events as E
use Rattle.judge.proofs.Moves.{stays_same}
use Prim.Native.Nat.{◌+◌}
use Rattle.judge.specs.Along.{held_after}
use Rattle.judge.proofs.Answers as answers
use borrow.Author.Tests.{ne_eqb}
use mathlib.Core.Path.{refl}
use native.Mathlib.Omega.{arith}
use Rattle.judge.proofs.held_after.Goals as goal

pub enter_block-requires : goal.enter_block-requires
enter_block-requires c =
    let h = rw c.if-op-eq-BLOCK.true at c.requires.1.1.1.1 in omega arith

pub returns-then-op-eq-BLOCK : goal.returns-then-op-eq-BLOCK
unfolding held_after
returns-then-op-eq-BLOCK c =
    ((λ f s. rw c.if-op-eq-BLOCK.true (c.enter_block.ensures _)), stays_same _)

pub returns-then-op-eq-END_BLOCK : goal.returns-then-op-eq-END_BLOCK
unfolding held_after
returns-then-op-eq-END_BLOCK c =
    ((λ f s. rw c.if-op-eq-END_BLOCK.true (c.leave_block.ensures _)), stays_same _)

pub returns-then-op-eq-BASE : goal.returns-then-op-eq-BASE
unfolding held_after
returns-then-op-eq-BASE c = (
  (λ f s. rw (
    c.if-op-eq-BASE.true,
    answers.kept-is s
        c.args.t _
        c.meaning.ensures _ c.register-r.ensures.0,
  )
      (c.keep_base.ensures.0 _)),
  c.keep_base.ensures.1,
)

pub returns-then-op-eq-PROCEDURE : goal.returns-then-op-eq-PROCEDURE
unfolding held_after
returns-then-op-eq-PROCEDURE c = (
  (λ f s. rw (
    c.if-op-eq-PROCEDURE.true,
    answers.kept-is s
        (c.args.t + 2) _
        c.meaning-then-op-eq-PROCEDURE.ensures _ c.register-r-then-op-eq-PROCEDURE.ensures.0,
  )
      (c.keep_return.ensures.0 _)),
  c.keep_return.ensures.1,
)

pub returns-then-op-eq-END_PROCEDURE : goal.returns-then-op-eq-END_PROCEDURE
unfolding held_after
returns-then-op-eq-END_PROCEDURE c =
    ((λ f s. rw c.if-op-eq-END_PROCEDURE.true (c.leave_procedure.ensures _ _)), stays_same _)

pub returns : goal.returns
unfolding held_after
returns c = (
  (λ f s.
      rw (
        ne_eqb _ E.BLOCK c.if-op-eq-BLOCK.false,
        ne_eqb _ E.END-BLOCK c.if-op-eq-END_BLOCK.false,
        ne_eqb _ E.BASE
            c.if-op-eq-BASE.false,
        ne_eqb _ E.PROCEDURE c.if-op-eq-PROCEDURE.false,
        ne_eqb _ E.END-PROCEDURE c.if-op-eq-END_PROCEDURE.false,
      )
      (record { is = refl; deep = omega arith })),
  stays_same _,
)
