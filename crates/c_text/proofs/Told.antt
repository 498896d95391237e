-- What the lent memory tells of a reading is what was answered. Assumes nothing.
use mathlib.Core.Path.{◌≡◌}
use mathlib.Core.List.{List}
use Prim.Native.Nat.{ℕ}
use Rattle.token.specs.Text.{Reading}
use Rattle.token.specs.Answers.{Tokens, summary_of, Lists, Laid}
use Rattle.c_text.specs.Lent.{Lent, parts_of}

pub told : {r : Reading} {before after : Lists} {answer : Tokens} {number : ℕ} {parts : List ℕ} → Laid r before after answer → number ≡ (summary_of answer).number
    → parts ≡ parts_of (summary_of answer) → Lent r before after number parts
told d n p = record { is = rw (n, p) d.is; are-laid = d.are-laid }
