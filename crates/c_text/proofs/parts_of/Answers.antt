-- `parts_of` puts down place, line, column and count of what was read. Assumes nothing.
use Rattle.std.proofs.Common.{ℕ, [], ◌∷◌, ◌≡◌, refl, sym, ap, ◌∙◌}
use Rattle.token.specs.Answers.{Tokens, refusal_of, summary_of}
use Rattle.token.specs.declared.Unread.{Unread}
use Rattle.token.specs.declared.Unread.TheVariants as U
use Rattle.c_text.specs.Lent.{parts_of}
use Rattle.c_text.proofs.parts_of.Goals as goal

of : {a b : Tokens} → a ≡ b → parts_of (summary_of b) ≡ parts_of (summary_of a)
of e = ap (λ (t : Tokens). parts_of (summary_of t)) (sym e)

-- a refusal counts no token
none-counted : (u : Unread) → (refusal_of u).count ≡ 0
none-counted U.TooLong = refl
none-counted (U.Refused r) = refl
none-counted (U.Room needed) = refl

pub returns-in-Ok : goal.returns-in-Ok
returns-in-Ok c =
    of c.in-Ok.is

pub returns-in-Err : goal.returns-in-Err
returns-in-Err c =
    let e = refusal_of c.in-Err.unread in
    rw c.spot-spot.ensures
    (ap (λ (k : ℕ). e.spot.place ∷ e.spot.line ∷ e.spot.column ∷ k ∷ []) (sym (none-counted c.in-Err.unread)) ∙ of c.in-Err.is)
