-- What begins with a name, by the designator that the tokens behind it begin with: before a `:=` that is the target of an assignment (`assigns`); where none stands there it is a
-- call or a use (`uses`). Assumes nothing.
use mathlib.Core.Path.{◌≡◌, refl, sym, ◌∙◌}
use mathlib.Core.List.{List}
use mathlib.Core.Bool.{true, false}
use mathlib.Core.Option.{Option, none, some}
use Prim.Native.Nat.{ℕ, suc, ◌+◌}
use lib.ListN.{get_or, length}
use borrow.Author.Tests.{eqb-true}
use Rattle.base.specs.Choose.{whether◌then◌else◌}
use Rattle.base.proofs.Tests.{cases, never_true}
use Rattle.token.specs.Kinds as K
use Rattle.grammar.specs.Tree.{Designator, Operand, Statement, assign}
use Rattle.grammar.specs.Reader.{Result, ok, bad, and_then, look, give}
use Rattle.grammar.specs.Grammar.{designator_of, assignment_of, arguments, target_of, assign_or, use_of, after_name}
use Rattle.grammar.specs.Derives.{are_arguments}
use Rattle.grammar.proofs.Tests.{has, isnt}
use Rattle.grammar.proofs.Sequences.{always, Right, read_right}
use Rattle.grammar.proofs.Rules.{right-designator, right-arguments, Targets, row-targets}
use Rattle.grammar.proofs.Complete.{complete-designator, name-target}

module _ (kinds : List ℕ) (n : ℕ) (h : get_or kinds n 0 ≡ K.NAME) where
  pub assigns : (d : Designator) (j : ℕ) → designator_of n kinds (n + 1) ≡ ok d j → get_or kinds j 0 ≡ K.BECOMES
      → after_name n kinds (n + 1) ≡ and_then (assignment_of n kinds (n + 1)) (λ a i. ok (assign a) i)
  unfolding assignment_of and_then
  assigns d j e b = rw (name-target kinds d n j (read_right (right-designator kinds n h) e) b, e)

  pub uses : ((d : Designator) (j : ℕ) → designator_of n kinds (n + 1) ≡ ok d j → has kinds j K.BECOMES ≡ false)
      → after_name n kinds (n + 1) ≡ and_then (arguments (suc (length kinds)) kinds (n + 1)) (λ xs j. ok (use_of n xs) j)
  unfolding after_name assign_or and_then look
  uses never = go (arguments (suc (length kinds)) kinds (n + 1)) (right-arguments kinds (suc (length kinds)) (n + 1))
    where
      taken : (s : Statement) (j : ℕ) (d : Option Designator) → Targets kinds n j d → has kinds j K.BECOMES ≡ true → assign_or d s kinds j ≡ ok s j
      taken s j none t b = refl
      taken s j (some d) t b = never_true (sym (never d j (complete-designator kinds d n j t (isnt kinds j K.OPEN (eqb-true _ _ b) refl))) ∙ b)

      go : (r : Result (List Operand)) → Right (always are_arguments) kinds (n + 1) r
          → and_then r (λ xs j. (whether has kinds j K.BECOMES then assign_or (target_of n xs) (use_of n xs) else give (use_of n xs)) kinds j) ≡ and_then r (λ xs j. ok (use_of n xs) j)
      go (bad m t) q = refl
      go (ok xs j) q = cases (has kinds j K.BECOMES) (λ b. rw b (taken (use_of n xs) j (target_of n xs) (row-targets kinds n j xs h q.right) b)) (λ b. rw b)
