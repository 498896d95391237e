-- The derived order of broken rules is the definition's: that of places, then of numbers. `join` and `join_to` go by it.
use Rattle.std.proofs.Common.{◌≡◌, ℕ, not, ◌&&◌, ◌||◌, ltb, leb, eqb, pos, [], ◌∷◌, get_or, refl, ◌∙◌, arith, Ordering, Less, Equal, Greater, Some}
use Rattle.std.specs.Ordering.{ordering_then, partial_ordering_then, nat_cmp, int_cmp, is_lt, partial_lt, is_some_and}
use Rattle.std.proofs.lemmas.Bool.Decides.{nat_tests}
use Rattle.scopes.specs.declared.Refusal.{Refusal}
use Rattle.scopes.specs.declared.Refusal.TheVariants.{NotFound, Twice, Misfit, WrongRegister, Protected, OutOfBounds, NoRoom, TooMany}
use Rattle.scopes.specs.declared.Broken.{Broken}
use Rattle.scopes.specs.Broken.{refusal_number, before}
use Rattle.scopes.specs.contracts.BrokenOrd as ordered
use Rattle.scopes.specs.contracts.BrokenPartialOrd as partial
use Rattle.scopes.specs.contracts.Refusal.{the_type}
use denote.Enum.Declared.{tag_of}

-- the code of a refusal is its number
code-is : (r : Refusal) → get_or (pos 6 ∷ pos 7 ∷ pos 8 ∷ pos 9 ∷ pos 10 ∷ pos 11 ∷ pos 12 ∷ pos 13 ∷ []) (tag_of the_type r) (pos 0) ≡ pos (refusal_number r)
code-is NotFound = refl
code-is Twice = refl
code-is Misfit = refl
code-is WrongRegister = refl
code-is Protected = refl
code-is OutOfBounds = refl
code-is NoRoom = refl
code-is TooMany = refl

sooner : (i j m n : ℕ) → is_lt (ordering_then (nat_cmp i j) (int_cmp (pos m) (pos n))) ≡ not (ltb j i || (eqb j i && leb n m))
sooner i j m n = grind (arith, nat_tests)

pub later : (x y : Broken) → is_lt ((ordered.TheImpl.cmp-value).it y x) ≡ not (before x y)
later x y = rw (code-is y.refusal, code-is x.refusal) (sooner y.at x.at (refusal_number y.refusal) (refusal_number x.refusal))

-- what `<` asks, by the two orders that the derive gives
partly : (o p : Ordering) → is_some_and is_lt (partial_ordering_then (Some o) (Some p)) ≡ is_lt (ordering_then o p)
partly Less p = refl
partly Equal p = refl
partly Greater p = refl

pub less : (x y : Broken) → partial_lt (partial.TheImpl.partial_cmp-value).it y x ≡ not (before x y)
less x y = partly _ _ ∙ later x y
