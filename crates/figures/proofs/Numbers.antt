-- How the loop over digits goes: a digit more, a byte that ends it, the end. Assumes nothing.
use Prim.Native.Nat.{ℕ, ◌+◌, ◌≤◌, ◌<◌}
use mathlib.Core.Path.{◌≡◌, sym, ◌∙◌}
use mathlib.Core.List.{List}
use lib.ListN.{length, drop, get_or, drop_of_length-le}
use Rattle.std.specs.Prelude.{Option, Some, None}
use Rattle.std.specs.Option.{option_and_then}
use Rattle.base.proofs.Parts.{drop-turn}
use Rattle.figures.specs.Numbers.{with_digit, digits}

module _ (base limit v : ℕ) (s : List ℕ) (i : ℕ) {whole : Option ℕ} (inv : whole ≡ digits base limit v (drop i s)) where
  turn : i < length s → whole ≡ option_and_then (λ n. digits base limit n (drop (i + 1) s)) (with_digit base limit v (get_or s i 0))
  unfolding digits
  turn h = inv ∙ rw (drop-turn s i 0 h)

  pub digits-on : {n : ℕ} → i < length s → with_digit base limit v (get_or s i 0) ≡ Some n → whole ≡ digits base limit n (drop (i + 1) s)
  digits-on h e = turn h ∙ rw e

  pub digits-none : i < length s → with_digit base limit v (get_or s i 0) ≡ None → None ≡ whole
  digits-none h e = sym (turn h ∙ rw e)

  pub digits-end : length s ≤ i → Some v ≡ whole
  unfolding digits
  digits-end h = sym (inv ∙ rw (drop_of_length-le s h))
