-- `next_token` passes over blanks, then over gaps, to a token, a refusal or the end. Assumes nothing.
use Prim.Native.Nat.{ℕ}
use mathlib.Core.Path.{◌≡◌, refl, ◌∙◌, sym, ap}
use mathlib.Core.Bool.{true}
use lib.Dec.{eqb}
use native.Mathlib.Omega.{arith}
use lib.ListN.{length-drop}
use borrow.Author.Rules.{rules}
use Rattle.base.proofs.Parts.{to_end}
use Rattle.base.proofs.Runs.{run-within, prefix-run}
use Rattle.token.proofs.Gaps.{from-separators, at-end, some, fits, past, found, refused-here}
use Rattle.token.proofs.Sizes.{size_of, run-one-line}
use Rattle.token.specs.Text.{separates}
use Rattle.scanner.specs.Inner.{in_class}
use Rattle.scanner.specs.declared.Class.TheVariants.{Blank}
use Rattle.std.proofs.Common.{Result, Ok}
use Rattle.token.specs.declared.Lexeme.{Lexeme}
use Rattle.token.specs.declared.Why.{Why}
use Rattle.scanner.proofs.next_token.Goals as goal

blank-separates : (b : ℕ) → eqb b 32 ≡ true → separates b ≡ true
blank-separates b e = rw e

in_ok : {r : Result Lexeme Why} {x l : Lexeme} → r ≡ Ok x → x ≡ l → r ≡ Ok l
in_ok e f = e ∙ ap Ok f

pub loop-at-init : goal.loop-at-init
loop-at-init c =
    let s = c.args.s.now in
    let e = c.run-blanks.ensures.is ∙ prefix-run (in_class Blank) s in
    (search rules, rw e (from-separators s _ (run-within (in_class Blank) separates blank-separates s)), search rules, rw e (run-one-line (in_class Blank) refl s))

pub front-l-requires : goal.front-l-requires
front-l-requires c =
    let s = c.args.s.now in rw (to_end s c.loop-at.at) (omega (arith, length-drop c.loop-at.at s))

pub overflow_add-at : goal.overflow_add-at
overflow_add-at c =
    omega (
      arith,
      fits c.args.s.now
          c.loop-at.at c.front-l.result
          c.loop-at-test.true c.front-l.ensures,
      ap size_of (in_ok c.in-Ok-Gap.is (rw c.in-Ok-Gap.is at c.in-Ok-Gap.field-0-is)),
    )

pub loop-at-smaller : goal.loop-at-smaller
loop-at-smaller c =
    omega (
      arith,
      some c.args.s.now
          c.loop-at.at c.front-l.result
          c.loop-at-test.true c.front-l.ensures,
      ap size_of (in_ok c.in-Ok-Gap.is (rw c.in-Ok-Gap.is at c.in-Ok-Gap.field-0-is)),
    )

pub loop-at-preserved : goal.loop-at-preserved
loop-at-preserved c =
    let s = c.args.s.now in
    let l = c.front-l in
    let at = c.loop-at.at in
    let h = c.loop-at-test.true in (
      omega (arith, fits s at l.result h l.ensures, ap size_of (in_ok c.in-Ok-Gap.is (rw c.in-Ok-Gap.is at c.in-Ok-Gap.field-0-is))),
      c.loop-at.invariant.1
          ∙ past s at l.result h l.ensures _ (in_ok c.in-Ok-Gap.is (rw c.in-Ok-Gap.is at c.in-Ok-Gap.field-0-is)),
      search rules,
      search rules,
    )

pub overflow_add-result : goal.overflow_add-result
overflow_add-result c =
    omega (
      arith,
      fits c.args.s.now c.loop-at.at c.front-l.result c.loop-at-test.true c.front-l.ensures,
      ap size_of (in_ok c.in-Ok-Token.is (rw c.in-Ok-Token.is at c.in-Ok-Token.field-0-is)),
    )

pub returns-in-Ok-Token : goal.returns-in-Ok-Token
returns-in-Ok-Token c =
    rw c.stands-spot.ensures
    (sym (c.loop-at.invariant.1 ∙ found c.args.s.now c.loop-at.at c.front-l.result c.loop-at-test.true
    c.front-l.ensures _ _ _ (in_ok c.in-Ok-Token.is (rw c.in-Ok-Token.is at c.in-Ok-Token.field-0-is))))

pub returns-in-Err : goal.returns-in-Err
returns-in-Err c =
    rw c.stands-spot-in-Err.ensures
    (sym (c.loop-at.invariant.1 ∙ refused-here c.args.s.now c.loop-at.at c.front-l.result c.loop-at-test.true
    c.front-l.ensures _ c.in-Err.is))

pub returns : goal.returns
returns c =
    rw c.stands.ensures (sym (c.loop-at.invariant.1 ∙ at-end _ _ c.loop-at-test.false))
