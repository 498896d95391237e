-- What a caller of `grammatical` may rely on: no second verdict fits its contract. Assumes nothing.
use mathlib.Core.Path.{◌≡◌, refl, sym, ap, ◌∙◌}
use lib.Dec.{eqb}
use Rattle.base.specs.Choose.{choose}
use Rattle.std.specs.Prelude.{Result, Ok, Err}
use Rattle.parse.specs.declared.Refusal.{Refusal}
use Rattle.parse.specs.declared.Refusal.TheVariants as S
use Rattle.parse.specs.Programs.{Judged, verdict_of}

verdict_back : Judged → Result Unit Refusal
verdict_back j =
    choose (eqb j.number 0) (Ok tt)
    (choose (eqb j.number 1) (Err S.TooLong)
    (choose (eqb j.number 2) (Err (S.NoToken j.spot))
    (choose (eqb j.number 3) (Err (S.OutOfRange j.spot))
    (choose (eqb j.number 4) (Err (S.Unexpected j.spot)) (Err (S.TooDeep j.spot))))))

verdict-back : (v : Result Unit Refusal) → verdict_back (verdict_of v) ≡ v
unfolding verdict_back
verdict-back (Ok x) = refl
verdict-back (Err S.TooLong) = refl
verdict-back (Err (S.NoToken spot)) = refl
verdict-back (Err (S.OutOfRange spot)) = refl
verdict-back (Err (S.Unexpected spot)) = refl
verdict-back (Err (S.TooDeep spot)) = refl

-- verdicts that say the same are the same
pub one-verdict : (v w : Result Unit Refusal) → verdict_of v ≡ verdict_of w → v ≡ w
one-verdict v w e = sym (verdict-back v) ∙ ap verdict_back e ∙ verdict-back w
