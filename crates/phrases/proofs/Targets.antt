-- Whether a name begins a target, and what is read behind it in either case; a row of arguments that begins with a parenthesis has one. Assumes nothing.
use mathlib.Core.Path.{◌≡◌, refl, subst}
use mathlib.Core.Bool.{true, false}
use mathlib.Core.List.{List, [], ◌∷◌}
use Prim.Native.Nat.{ℕ, suc, ◌+◌}
use lib.Dec.{eqb}
use lib.ListN.{get_or}
use borrow.Author.Tests.{eqb-true, ne_eqb}
use Rattle.base.proofs.Tests.{never_true}
use Rattle.token.specs.Kinds as K
use Rattle.grammar.specs.Tree.{Designator, Operand, assign}
use Rattle.grammar.specs.Reader.{Result, ok, bad, and_then, look, next, want}
use Rattle.grammar.specs.Grammar.{designator_of, operand, assignment_of, arguments, use_of, after_name}
use Rattle.grammar.proofs.Names.{assigns, uses}
use Rattle.tape.specs.Events as E
use Rattle.tape.specs.Tape.{event, tape_each, tape_argument, tape_statement}
use Rattle.phrases.specs.Parts.{targeted, used_of}

-- a name with no parenthesis behind it is a designator
pub target-bare : (ks : List ℕ) (n : ℕ) → (get_or ks (n + 1) 0 ≡ K.OPEN → ⊥) → targeted ks (designator_of n ks (n + 1)) ≡ eqb (get_or ks (n + 1) 0) K.BECOMES
unfolding designator_of and_then look
target-bare ks n h = rw (ne_eqb (get_or ks (n + 1) 0) K.OPEN h) refl

module _ (ks : List ℕ) (n i : ℕ) (behind : i ≡ n + 1) where
  pub target-read : targeted ks (designator_of n ks i) ≡ true → get_or ks n 0 ≡ K.NAME → after_name n ks i ≡ and_then (assignment_of n ks i) (λ a i. ok (assign a) i)
  target-read t h = rw behind (go (designator_of n ks (n + 1)) refl (rw behind at t))
    where
      go : (m : Result Designator) → designator_of n ks (n + 1) ≡ m → targeted ks m ≡ true
          → after_name n ks (n + 1) ≡ and_then (assignment_of n ks (n + 1)) (λ a i. ok (assign a) i)
      go (ok d j) e t = assigns ks n h d j e (eqb-true _ _ t)
      go (bad k s) e t = never_true t

  pub use-read : targeted ks (designator_of n ks i) ≡ false → get_or ks n 0 ≡ K.NAME → after_name n ks i ≡ used_of n ks i
  use-read t h = rw behind (uses ks n h (λ d j e. subst (λ (m : Result Designator). targeted ks m ≡ false) e (rw behind at t)))

-- ── one argument at least ──

abbrev Some : Result (List Operand) → Type 0
Some (ok [] j) = ⊥
Some (ok (a ∷ xs) j) = Unit {0}
Some (bad n t) = Unit {0}

some_then : {A : Type 0} (m : Result A) (f : A → ℕ → Result (List Operand)) → ((a : A) (j : ℕ) → Some (f a j)) → Some (and_then m f)
unfolding and_then
some_then (ok a j) f h = h a j
some_then (bad n t) f h = tt

pub some-argument : (ks : List ℕ) (f i : ℕ) → get_or ks i 0 ≡ K.OPEN → Some (arguments (suc f) ks i)
unfolding arguments and_then look next
some-argument ks f i h = rw h (some_then (operand ks (i + 1)) _ (λ a j. some_then (want K.CLOSE ks j) _ (λ c m. some_then (arguments f ks m) _ (λ xs l. tt))))

abbrev Full : List Operand → Type 0
Full [] = ⊥
Full (a ∷ xs) = Unit {0}

pub full : (ks : List ℕ) (f i j : ℕ) (xs : List Operand) → get_or ks i 0 ≡ K.OPEN → arguments (suc f) ks i ≡ ok xs j → Full xs
full ks f i j [] h e = absurd (subst Some e (some-argument ks f i h))
full ks f i j (a ∷ xs) h e = tt

-- a use on the tape: its name, its arguments and its end
pub use-tape : (n : ℕ) (xs : List Operand) → Full xs → (k : List ℕ) → event E.APPLIED n ∷ tape_each tape_argument xs (event E.COUNTED n ∷ k) ≡ tape_statement (use_of n xs) k
unfolding tape_statement
use-tape n [] h k = absurd h
use-tape n (a ∷ xs) h k = refl
