-- What `load_and_go` answers, in a reader's words: for an accepted source the runner's answer on its object text, of which the theorems of `join` speak; and a
-- refusal leaves every lent byte as it was.
use mathlib.Core.Path.{◌≡◌, refl, ap, ◌∙◌}
use mathlib.Core.Bool.{Bool, true, false}
use mathlib.Core.List.{List, [], ◌++◌}
use Prim.Native.Nat.{ℕ, zero, suc, ◌≤◌}
use native.Mathlib.Omega.{arith}
use lib.Dec.{ltb}
use lib.ListN.{length, drop}
use lib.Seq.{take_at}
use borrow.Author.Tests.{ne_eqb, le-ltb, ltb-false}
use Rattle.base.specs.Choose.{choose}
use Rattle.spots.specs.Spots.{unplaced}
use Rattle.objtext.specs.Object.{Form, of-object, of_none}
use Rattle.objtext.proofs.Exact.{form}
use Rattle.machine.specs.Space.{needed}
use Rattle.translation.specs.Translate as T
use Rattle.translation.specs.Translate.{accepted, refused, translate}
use Rattle.machine.specs.Run.{run}
use Rattle.runner.specs.Load.{loaded, space_of, started}
use Rattle.runner.specs.Runner as R
use Rattle.runner.specs.Runner.{on_form, runner}
use Rattle.join.proofs.Theorems.{it-runs}
use Rattle.load_and_go.specs.Going.{Outcome, not_run, ran, gone, load_and_go}

module _ (source regs : List ℕ) (k budget : ℕ) (buffer s : List ℕ) where
  -- an accepted source, with a code and storage that will do: its object text is written and run
  pub accepted-goes : (t : List ℕ) → translate source (length buffer) ≡ accepted t → k ≤ 3 → needed ≤ length s
      → load_and_go source regs k budget buffer s ≡ ran (length t) (t ++ drop (length t) buffer) (runner t regs k budget s)
  unfolding load_and_go gone
  accepted-goes t e h l = rw (le-ltb 3 k h, le-ltb (length s) needed l, e, take_at t (drop (length t) buffer) (length t) refl)

  -- buffer and storage as they were
  abbrev Untouched : Outcome → Type 0
  Untouched o = (o.buffer ≡ buffer) × (o.store ≡ s)

  runner-refuses : (t : List ℕ) → ((runner t regs k budget s).number ≡ 0 → ⊥) → (runner t regs k budget s).store ≡ s
  unfolding runner
  runner-refuses t n = go (form t) n
    where
      go : (f : Form t) → ((on_form f regs k budget s).number ≡ 0 → ⊥) → (on_form f regs k budget s).store ≡ s
      go (of_none o) m = refl
      go (of-object gs o e) m = tests (ltb 3 k) (ltb (length s) needed) m
        where
          tests : (a b : Bool) → ((choose a (R.refused 18 regs k s) (choose b (R.refused 19 regs k s) (R.accepted (run budget (space_of gs) (started regs k) (loaded gs s))))).number ≡ 0 → ⊥)
              → (choose a (R.refused 18 regs k s) (choose b (R.refused 19 regs k s) (R.accepted (run budget (space_of gs) (started regs k) (loaded gs s))))).store ≡ s
          tests true b m = refl
          tests false true m = refl
          tests false false m = absurd (m refl)

  refused-stays : (n p : ℕ) → ((gone source (refused n p) regs k budget buffer s).number ≡ 0 → ⊥) → Untouched (gone source (refused n p) regs k budget buffer s)
  unfolding gone
  refused-stays zero p n = (refl, runner-refuses [] n)
  refused-stays (suc m) p n = rw (ne_eqb (suc m) 0 (λ e. omega arith)) (refl, refl)

  -- "a refusal leaves all lent memory as it was"
  pub refused-touches-nothing : length regs ≡ 16 → ((load_and_go source regs k budget buffer s).number ≡ 0 → ⊥) → Untouched (load_and_go source regs k budget buffer s)
  unfolding load_and_go
  refused-touches-nothing sixteen n = tests (ltb 3 k) (ltb (length s) needed) refl refl n
    where
      go : (d : T.Answer) → translate source (length buffer) ≡ d → k ≤ 3 → needed ≤ length s → ((gone source d regs k budget buffer s).number ≡ 0 → ⊥)
          → Untouched (gone source d regs k budget buffer s)
      go (refused m p) e h l z = refused-stays m p z
      go (accepted t) e h l z =
          absurd (n (ap (λ (o : Outcome). o.number) (accepted-goes t e h l) ∙ it-runs source t (length buffer) e regs sixteen k h budget s l))

      tests : (a b : Bool) → ltb 3 k ≡ a → ltb (length s) needed ≡ b
          → ((choose a (not_run 18 (unplaced 0) regs k buffer s) (choose b (not_run 19 (unplaced 0) regs k buffer s) (gone source (translate source (length buffer)) regs k budget buffer s))).number ≡ 0 → ⊥)
          → Untouched (choose a (not_run 18 (unplaced 0) regs k buffer s) (choose b (not_run 19 (unplaced 0) regs k buffer s) (gone source (translate source (length buffer)) regs k budget buffer s)))
      tests true b h l z = (refl, refl)
      tests false true h l z = (refl, refl)
      tests false false h l z = go (translate source (length buffer)) refl (ltb-false 3 k h) (ltb-false (length s) needed l) z
