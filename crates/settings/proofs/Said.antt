-- How the loop over what the words say of registers goes: one word on, and a wrong one. Assumes nothing.
use Prim.Native.Nat.{ℕ, zero, suc, ◌+◌, ◌-◌, ◌<◌}
use mathlib.Core.Path.{◌≡◌, refl, sym, ap, ◌∙◌}
use mathlib.Core.Bool.{Bool}
use mathlib.Core.List.{List}
use Rattle.std.specs.Prelude.{Option, Result, Ok, Err}
use Rattle.figures.specs.Parts.{part_of}
use Rattle.words.specs.declared.Awaited.{Awaited}
use Rattle.words.specs.declared.Fault.{Fault}
use Rattle.words.specs.Wishes.{run_option}
use Rattle.settings.specs.Setting.{words_from, said_by, said_in}
use Rattle.settings.proofs.Going.{word_on}

module _ (source : Bool) (words : List ℕ) (count n : ℕ) where
  -- behind a wrong word nothing is said
  still : (k m : ℕ) (fault : Fault) → words_from (said_in source) words k m (Err fault) ≡ Err fault
  unfolding words_from
  still zero m fault = refl
  still (suc k) m fault = still k (m + 1) fault

  module _ (values : List ℕ) {whole : Result (List ℕ) Fault} (inv : whole ≡ words_from (said_in source) words (count - n) n (Ok values)) where
    -- what the word and the option before it say
    turn : {before word : List ℕ} {option : Option Awaited} {r : Result (List ℕ) Fault} → n < count → before ≡ part_of 0 (n - 1) words → option ≡ run_option before → word ≡ part_of 0 n words
        → r ≡ said_by values option n word source → whole ≡ words_from (said_in source) words (count - (n + 1)) (n + 1) r
    turn {word = word} h b o w e =
        word_on (said_in source) words count n (Ok values) inv h
        ∙ ap (λ r. words_from (said_in source) words (count - (n + 1)) (n + 1) r)
        (sym (e ∙ ap (λ x. said_by values x n word source) (o ∙ ap run_option b) ∙ ap (λ x. said_by values (run_option (part_of 0 (n - 1) words)) n x source) w))

    pub said_on : {before word now : List ℕ} {option : Option Awaited} {r : Result (List ℕ) Fault} → n < count → before ≡ part_of 0 (n - 1) words → option ≡ run_option before
        → word ≡ part_of 0 n words → r ≡ said_by values option n word source → r ≡ Ok now → whole ≡ words_from (said_in source) words (count - (n + 1)) (n + 1) (Ok now)
    said_on h b o w e f = rw f at (turn h b o w e)

    pub said_wrong : {before word : List ℕ} {fault : Fault} {option : Option Awaited} {r : Result (List ℕ) Fault} → n < count → before ≡ part_of 0 (n - 1) words → option ≡ run_option before
        → word ≡ part_of 0 n words → r ≡ said_by values option n word source → r ≡ Err fault → Err fault ≡ whole
    said_wrong {fault = fault} h b o w e f = sym ((rw f at (turn h b o w e)) ∙ still (count - (n + 1)) (n + 1) fault)
