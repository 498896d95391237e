-- Document 01, "Numbers answered": number, place and length for each case of the answer that is made of a text, and what is left in the buffer.
use Rattle.std.specs.Prelude.{◌≡◌, List, ℕ, Result, Ok, Err}
use Rattle.translation.specs.Translate as T
use Rattle.made.specs.declared.Refused.{Refused}

abbrev pub Answer : Type 0
Answer = Result ℕ Refused

abbrev pub number_of : Answer → ℕ
number_of (Ok n) = 0
number_of (Err e) = e.number

abbrev pub place_of : Answer → ℕ
place_of (Ok n) = 0
place_of (Err e) = e.place

abbrev pub length_of : Answer → ℕ
length_of (Ok n) = n
length_of (Err e) = 0

-- the answer and the buffer after it are what the definition's answer says
pub record Gives (a : T.Answer) (before after : List ℕ) (r : Answer) : Type 0 where
  pub number_is : number_of r ≡ T.number_of a
  pub place_is : place_of r ≡ T.place_of a
  pub length-is : length_of r ≡ T.length_of a
  pub buffer-is : after ≡ T.leaves a before
