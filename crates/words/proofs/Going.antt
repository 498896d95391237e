-- How the loop over the words goes: one word on, a wrong one, and the end. Assumes nothing.
use Prim.Native.Nat.{ℕ, suc, ◌+◌, ◌-◌, ◌≤◌, ◌<◌}
use mathlib.Core.Path.{◌≡◌, sym, ap, ◌∙◌}
use mathlib.Core.List.{List}
use native.Mathlib.Omega.{arith}
use Rattle.std.specs.Prelude.{Result, Ok, Err}
use Rattle.figures.specs.Parts.{part_of}
use Rattle.words.specs.declared.Fault.{Fault}
use Rattle.words.specs.declared.Said.{Said}
use Rattle.words.specs.Wishes.{◌>>=◌, taken, taken_all}

module _ (words : List ℕ) (count n : ℕ) (said : Said) {whole : Result Said Fault} (inv : whole ≡ taken_all words (count - n) n said) where
  turn : n < count → whole ≡ taken said n (part_of 0 n words) >>= (λ then. taken_all words (count - (n + 1)) (n + 1) then)
  unfolding taken_all
  turn h =
      let e : count - n ≡ suc (count - (n + 1)) = omega arith in
      inv ∙ rw e

  -- what a word of the part makes
  at_part : {r : Result Said Fault} {s : List ℕ} → s ≡ part_of 0 n words → r ≡ taken said n s → r ≡ taken said n (part_of 0 n words)
  at_part p e = e ∙ ap (taken said n) p

  pub word_on : {r : Result Said Fault} {s : List ℕ} {then : Said} → n < count → s ≡ part_of 0 n words → r ≡ taken said n s → r ≡ Ok then
      → whole ≡ taken_all words (count - (n + 1)) (n + 1) then
  word_on h p e f = turn h ∙ rw (sym (at_part p e) ∙ f)

  pub word_wrong : {r : Result Said Fault} {s : List ℕ} {fault : Fault} → n < count → s ≡ part_of 0 n words → r ≡ taken said n s → r ≡ Err fault → Err fault ≡ whole
  word_wrong h p e f = sym (turn h ∙ rw (sym (at_part p e) ∙ f))

  pub words-end : count ≤ n → Ok said ≡ whole
  unfolding taken_all
  words-end h =
      let e : count - n ≡ 0 = omega arith in
      sym (inv ∙ rw e)
