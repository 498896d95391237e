-- 18 and 19 are judged before anything is written; a refusal of the translator is handed on; an object text, which fits the buffer, is run where it stands.
-- Assumes nothing.
use native.Mathlib.Omega.{arith}
use borrow.Author.Rules.{rules}
use borrow.Author.Tests.{lt-ltb, le-ltb}
use Rattle.load_and_go.specs.Going.{load_and_go}
use Rattle.load_and_go.proofs.Going.{refused-is, runs, going-is}
use Rattle.load_and_go.proofs.load_and_go.Goals as goal

pub returns-then-code-gt-LAST_CODE : goal.returns-then-code-gt-LAST_CODE
unfolding load_and_go
returns-then-code-gt-LAST_CODE c =
    rw (c.from.ensures, lt-ltb _ _ c.if-code-gt-LAST_CODE.true)

pub returns-then-s-lt-NEEDED : goal.returns-then-s-lt-NEEDED
unfolding load_and_go
returns-then-s-lt-NEEDED c =
    rw (c.from-then-s-lt-NEEDED.ensures, le-ltb _ _ c.if-code-gt-LAST_CODE.false, lt-ltb _ _ c.if-s-lt-NEEDED.true)

pub returns-in-Err : goal.returns-in-Err
unfolding load_and_go
returns-in-Err c =
    rw (le-ltb _ _ c.if-code-gt-LAST_CODE.false, le-ltb _ _ c.if-s-lt-NEEDED.false)
    (refused-is _ _ _ _ _ _ _ c.args.budget _ c.in-Err.ensures)

pub returns-in_err-ran : goal.returns-in_err-ran
returns-in_err-ran c =
    absurd
    (runs c.args.src.now c.args.object.now _ _ c.in-Ok.ensures c.args.regs (search rules) c.args.code c.args.budget (omega (arith, c.if-code-gt-LAST_CODE.false))
    c.args.s.now (omega (arith, c.if-s-lt-NEEDED.false)) _ c.in_err-ran.field-0.0 c.in_err-ran.ensures)

pub returns : goal.returns
returns c =
    going-is c.args.src.now c.args.object.now _ _ c.in-Ok.ensures c.args.regs (search rules) c.args.code c.args.budget (omega (arith, c.if-code-gt-LAST_CODE.false))
    c.args.s.now (omega (arith, c.if-s-lt-NEEDED.false)) _ c.in_ok-ran.ran c.in_ok-ran.ensures
