-- How a loop over the words goes: one word on, and the end. Assumes nothing.
use Prim.Native.Nat.{ℕ, suc, ◌+◌, ◌-◌, ◌≤◌, ◌<◌}
use mathlib.Core.Path.{◌≡◌, sym, ◌∙◌}
use mathlib.Core.List.{List}
use native.Mathlib.Omega.{arith}
use Rattle.figures.specs.Parts.{part_of}
use Rattle.std.specs.Prelude.{Option}
use Rattle.words.specs.declared.Awaited.{Awaited}
use Rattle.words.specs.Wishes.{run_option}
use Rattle.settings.specs.Setting.{words_from}

module _ {A : Type 0} (step : Option Awaited → ℕ → List ℕ → A → A) (words : List ℕ) (count n : ℕ) (x : A) {whole : A} (inv : whole ≡ words_from step words (count - n) n x) where
  pub word_on : n < count → whole ≡ words_from step words (count - (n + 1)) (n + 1) (step (run_option (part_of 0 (n - 1) words)) n (part_of 0 n words) x)
  unfolding words_from
  word_on h =
      let e : count - n ≡ suc (count - (n + 1)) = omega arith in
      inv ∙ rw e

  pub words-end : count ≤ n → x ≡ whole
  unfolding words_from
  words-end h =
      let e : count - n ≡ 0 = omega arith in
      sym (inv ∙ rw e)
