-- `sign` goes by the first byte, and by the second where a longer sign begins so. Assumes nothing.
use Rattle.std.proofs.Common.{Ok, Err}
use mathlib.Core.Path.{refl, sym, ◌∙◌}
use borrow.Author.Rules.{rules}
use Rattle.scanner.proofs.Signs.{one, two, none}
use Rattle.token.specs.declared.Lexeme.TheVariants.{Token}
use Rattle.token.specs.declared.Why.TheVariants.{NoToken}
use Rattle.token.specs.Kinds as K
use Rattle.token.specs.Text.{sign, begins}
use Rattle.scanner.proofs.sign.Goals as goal

pub returns-in-40 : goal.returns-in-40
unfolding sign begins
returns-in-40 c =
    one c.args.s.now 40 (search rules) (sym c.in-40.is) (λ t. refl)

pub returns-in-41 : goal.returns-in-41
unfolding sign begins
returns-in-41 c =
    one c.args.s.now 41 (search rules) (sym c.in-41.is) (λ t. refl)

pub returns-in-42 : goal.returns-in-42
unfolding sign begins
returns-in-42 c =
    one c.args.s.now 42 (search rules) (sym c.in-42.is) (λ t. refl)

pub returns-in-43 : goal.returns-in-43
unfolding sign begins
returns-in-43 c =
    c.two_or.ensures ∙ two c.args.s.now 43 43 K.ADD-LOGICAL (Ok (Token K.PLUS 0 1)) (search rules) (sym c.in-43.is) refl (λ t. refl) (λ y t e. rw (e, sign))

pub returns-in-44 : goal.returns-in-44
unfolding sign begins
returns-in-44 c =
    one c.args.s.now 44 (search rules) (sym c.in-44.is) (λ t. refl)

pub returns-in-45 : goal.returns-in-45
unfolding sign begins
returns-in-45 c =
    c.two_or-in-45.ensures ∙ two c.args.s.now 45 45 K.SUBTRACT-LOGICAL (Ok (Token K.MINUS 0 1)) (search rules) (sym c.in-45.is) refl (λ t. refl) (λ y t e. rw (e, sign))

pub returns-in-58 : goal.returns-in-58
unfolding sign begins
returns-in-58 c =
    c.two_or-in-58.ensures ∙ two c.args.s.now 58 61 K.BECOMES (Ok (Token K.COLON 0 1)) (search rules) (sym c.in-58.is) refl (λ t. refl) (λ y t e. rw (e, sign))

pub returns-in-59 : goal.returns-in-59
unfolding sign begins
returns-in-59 c =
    one c.args.s.now 59 (search rules) (sym c.in-59.is) (λ t. refl)

pub returns-in-60 : goal.returns-in-60
unfolding sign begins
returns-in-60 c =
    c.two_or-in-60.ensures ∙ two c.args.s.now 60 61 K.AT-MOST (Ok (Token K.LESS 0 1)) (search rules) (sym c.in-60.is) refl (λ t. refl) (λ y t e. rw (e, sign))

pub returns-in-61 : goal.returns-in-61
unfolding sign begins
returns-in-61 c =
    one c.args.s.now 61 (search rules) (sym c.in-61.is) (λ t. refl)

pub returns-in-62 : goal.returns-in-62
unfolding sign begins
returns-in-62 c =
    c.two_or-in-62.ensures ∙ two c.args.s.now 62 61 K.AT-LEAST (Ok (Token K.MORE 0 1)) (search rules) (sym c.in-62.is) refl (λ t. refl) (λ y t e. rw (e, sign))

pub returns-in-64 : goal.returns-in-64
unfolding sign begins
returns-in-64 c =
    one c.args.s.now 64 (search rules) (sym c.in-64.is) (λ t. refl)

pub returns-in-94 : goal.returns-in-94
unfolding sign begins
returns-in-94 c =
    c.two_or-in-94.ensures ∙ two c.args.s.now 94 61 K.UNEQUAL (Err NoToken) (search rules) (sym c.in-94.is) refl (λ t. refl) (λ y t e. rw (e, sign))

pub returns-in_default : goal.returns-in_default
returns-in_default c =
    let q = c.in_default.in_default-own.rest in none c.args.s.now (search rules) q.0.0.0.0.0.0.0.0.0.0.0.0.1 q.0.0.0.0.0.0.0.0.0.0.0.1
    q.0.0.0.0.0.0.0.0.0.0.1 q.0.0.0.0.0.0.0.0.0.1 q.0.0.0.0.0.0.0.0.1 q.0.0.0.0.0.0.0.1
    q.0.0.0.0.0.0.1 q.0.0.0.0.0.1 q.0.0.0.0.1 q.0.0.0.1 q.0.0.1 q.0.1 q.1
