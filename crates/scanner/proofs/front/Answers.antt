-- `front` goes by the first byte, as the definition does. Assumes nothing.
use Prim.Native.Nat.{ℕ}
use mathlib.Core.List.{List}
use mathlib.Core.Bool.{Bool}
use mathlib.Core.Path.{ap, ◌∙◌}
use lib.ListN.{drop}
use borrow.Author.Tests.{eq-eqb, ne_eqb}
use Rattle.base.proofs.Parts.{to_end}
use Rattle.scanner.proofs.Spelling.{decimal, hexadecimal}
use Rattle.scanner.specs.Inner.{in_base}
use Rattle.base.proofs.Runs.{prefix-run}
use Rattle.token.specs.Text.{separates, lexeme, number, plain, negated}
use Rattle.scanner.proofs.front.Goals as goal

pub returns-then-b : goal.returns-then-b
unfolding lexeme
returns-then-b c =
    rw (c.if-b.true, ← (c.run.ensures.is ∙ prefix-run separates c.args.s.now))

pub returns-then-b-2 : goal.returns-then-b-2
unfolding lexeme
returns-then-b-2 c =
    rw (c.if-b.false, c.if-b-2.true) c.name_or_word.ensures

pub returns-then-b-3 : goal.returns-then-b-3
unfolding lexeme
returns-then-b-3 c =
    rw (c.if-b.false, c.if-b-2.false, c.if-b-3.true)
    (c.number.ensures ∙ ap (λ (p : ℕ → Bool). number p 10 2147483647 plain 0 c.args.s.now) decimal)

pub returns-then-b-eq95 : goal.returns-then-b-eq95
unfolding lexeme
returns-then-b-eq95 c =
    let s = c.args.s.now in rw (c.if-b.false, c.if-b-2.false, c.if-b-3.false, eq-eqb _ _ c.if-b-eq95.true)
    (c.number-then-b-eq95.ensures ∙ ap (λ (t : List ℕ). number (in_base 10) 10 2147483648 negated 1 t) (to_end s 1)
    ∙ ap (λ (p : ℕ → Bool). number p 10 2147483648 negated 1 (drop 1 s)) decimal)

pub returns-then-b-eq35 : goal.returns-then-b-eq35
unfolding lexeme
returns-then-b-eq35 c =
    let s = c.args.s.now in rw (
      c.if-b.false,
      c.if-b-2.false,
      c.if-b-3.false,
      ne_eqb _ _ c.if-b-eq95.false,
      eq-eqb _ _ c.if-b-eq35.true,
    ) (c.number-then-b-eq35.ensures ∙ ap (λ (t : List ℕ). number (in_base 16) 16 4294967295 plain 1 t) (to_end s 1)
    ∙ ap (λ (p : ℕ → Bool). number p 16 4294967295 plain 1 (drop 1 s)) hexadecimal)

pub returns : goal.returns
unfolding lexeme
returns c =
    rw (
      c.if-b.false,
      c.if-b-2.false,
      c.if-b-3.false,
      ne_eqb _ _ c.if-b-eq95.false,
      ne_eqb _ _ c.if-b-eq35.false,
    ) c.sign.ensures
