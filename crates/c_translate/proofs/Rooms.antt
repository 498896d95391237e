-- What is told of an answer is told of the definition's, and what is written into a buffer fits it. Assumes nothing.
use mathlib.Core.Path.{◌≡◌, ap}
use mathlib.Core.List.{List}
use Prim.Native.Nat.{ℕ, ◌≤◌}
use native.Mathlib.Omega.{arith}
use lib.Dec.{ltb}
use lib.ListN.{length}
use borrow.Author.Tests.{ltb-false}
use Rattle.base.proofs.Tests.{by-test}
use Rattle.translation.specs.Translate as T
use Rattle.translation.specs.Translate.{accepted, refused, translated, in_room, translate}
use Rattle.translate.specs.Answers.{Answer, Outcome, number_of, spot_of, length_of, outcome, defined}
use Rattle.c_translate.specs.Lent.{Lent, parts_of}

fits-room : (a : T.Answer) (room : ℕ) → T.length_of (in_room room a) ≤ room
unfolding in_room
fits-room (accepted t) room = by-test (λ (r : T.Answer). T.length_of r ≤ room) (ltb room (length t)) _ _ (λ e. omega arith) (λ e. ltb-false _ _ e)
fits-room (refused n p) room = omega arith

fits : (source : List ℕ) (room : ℕ) → T.length_of (translate source room) ≤ room
unfolding translate
fits source room = fits-room (translated source) room

pub lent_is : (source before after : List ℕ) (r : Answer) (number : ℕ) (answer : List ℕ) → number ≡ number_of r → answer ≡ parts_of (spot_of r) (length_of r)
    → outcome r after ≡ defined source before → Lent source before after number answer
lent_is source before after r number answer n a e =
    let l : length_of r ≡ T.length_of (translate source (length before)) = ap (λ (o : Outcome). o.length) e in
    rw (n, a) (record { is = e; fits = rw l (fits source (length before)) })
